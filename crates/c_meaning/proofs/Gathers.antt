-- The right parts of a sum, gathered.
use Rattle.std.proofs.Common.{ℕ, ◌+◌, ◌≡◌, refl, sym, ap, ◌∙◌, ℤ, pos, ◌+ℤ◌, ◌-ℤ◌, neg_ℤ, Option, Ok, Err, arith}
use Rattle.std.proofs.lemmas.Int.{ints}
use Rattle.c_tree.specs.declared.index.Index.{Index}
use Rattle.c_tree.specs.declared.index.Index.TheVariants.{Plus, Minus}
use Rattle.c_meaning.specs.Weighed.{Weighed, plain, negated, sum_of, difference_of}
use Rattle.c_meaning.specs.Value.{Sight, Answer, measure, on_one, on_two}
use Rattle.c_meaning.specs.Capped.{cap}
use Rattle.c_meaning.proofs.Equations.{measure-Plus, measure-Minus}

-- what the rest gives, together with what is gathered, is what the whole gives
pub record Gathers (whole rest : Index) (right : Answer (Option Weighed)) (s : Sight) : Type 0 where
  pub parts : Answer Weighed
  pub right_is : right ≡ cap parts
  pub whole_is : measure whole s ≡ on_two sum_of (measure rest s) parts

same_weighed : (v w : Weighed) → v.value ≡ w.value → v.weight ≡ w.weight → v ≡ w
same_weighed v w h k = ap (λ n. let x : Weighed = record { value = n; weight = v.weight } in x) h ∙ ap (λ n. let x : Weighed = record { value = w.value; weight = n } in x) k

zero_last : (n : ℤ) → n +ℤ pos 0 ≡ n
zero_last n = omega (arith, ints)

sum_zero : (w : Weighed) → w ≡ sum_of w (plain (pos 0))
sum_zero w = same_weighed w (sum_of w (plain (pos 0))) (sym (zero_last w.value)) (omega arith)

nothing_right : (m : Answer Weighed) → m ≡ on_two sum_of m (Ok (plain (pos 0)))
nothing_right (Ok w) = ap Ok (sum_zero w)
nothing_right (Err e) = refl

int_assoc : (a b c : ℤ) → (a +ℤ b) +ℤ c ≡ a +ℤ (b +ℤ c)
int_assoc a b c = omega (arith, ints)

nat_assoc : (a b c : ℕ) → (a + b) + c ≡ a + (b + c)
nat_assoc a b c = omega arith

sum_assoc : (u v w : Weighed) → sum_of (sum_of u v) w ≡ sum_of u (sum_of v w)
sum_assoc u v w = same_weighed (sum_of (sum_of u v) w) (sum_of u (sum_of v w)) (int_assoc u.value v.value w.value) (nat_assoc u.weight v.weight w.weight)

regrouped : (l m n : Answer Weighed) → on_two sum_of (on_two sum_of l m) n ≡ on_two sum_of l (on_two sum_of m n)
regrouped (Ok u) (Ok v) (Ok w) = ap Ok (sum_assoc u v w)
regrouped (Ok u) (Ok v) (Err e) = refl
regrouped (Ok u) (Err e) n = refl
regrouped (Err e) m n = refl

int_minus : (a b : ℤ) → a -ℤ b ≡ a +ℤ neg_ℤ b
int_minus a b = omega (arith, ints)

difference_is : (u v : Weighed) → difference_of u v ≡ sum_of u (negated v)
difference_is u v = same_weighed (difference_of u v) (sum_of u (negated v)) (int_minus u.value v.value) refl

minus_is : (l m : Answer Weighed) → on_two difference_of l m ≡ on_two sum_of l (on_one negated m)
minus_is (Ok u) (Ok v) = ap Ok (difference_is u v)
minus_is (Ok u) (Err e) = refl
minus_is (Err e) m = refl

pub begins : (e : Index) (right : Answer (Option Weighed)) (s : Sight) → right ≡ cap (Ok (plain (pos 0))) → Gathers e e right s
begins e right s h = record { parts = Ok (plain (pos 0)); right_is = h; whole_is = nothing_right (measure e s) }

-- one more right part, which is added
pub adds : (e rest left part : Index) (right next given : Answer (Option Weighed)) (s : Sight) → Gathers e rest right s → rest ≡ Plus left part → given ≡ cap (measure part s)
    → ((m n : Answer Weighed) → given ≡ cap m → right ≡ cap n → next ≡ cap (on_two sum_of m n)) → Gathers e left next s
adds e rest left part right next given s g is h k = record {
  parts = on_two sum_of (measure part s) g.parts;
  right_is = k (measure part s) g.parts h g.right_is;
  whole_is = g.whole_is ∙ ap (λ t. on_two sum_of (measure t s) g.parts) is ∙ ap (λ m. on_two sum_of m g.parts) (measure-Plus left part s) ∙ regrouped (measure left s) (measure part s) g.parts;
}

-- one more right part, which is taken away
pub takes : (e rest left part : Index) (right next given turned : Answer (Option Weighed)) (s : Sight) → Gathers e rest right s → rest ≡ Minus left part → given ≡ cap (measure part s)
    → ((m : Answer Weighed) → given ≡ cap m → turned ≡ cap (on_one negated m))
    → ((m n : Answer Weighed) → turned ≡ cap m → right ≡ cap n → next ≡ cap (on_two sum_of m n)) → Gathers e left next s
takes e rest left part right next given turned s g is h t k = record {
  parts = on_two sum_of (on_one negated (measure part s)) g.parts;
  right_is = k (on_one negated (measure part s)) g.parts (t (measure part s) h) g.right_is;
  whole_is =
      g.whole_is ∙ ap (λ t. on_two sum_of (measure t s) g.parts) is
      ∙ ap (λ m. on_two sum_of m g.parts) (measure-Minus left part s ∙ minus_is (measure left s) (measure part s))
      ∙ regrouped (measure left s) (on_one negated (measure part s)) g.parts;
}

-- the leftmost part is reached
pub ends : (e rest : Index) (right given result : Answer (Option Weighed)) (s : Sight) (m : Answer Weighed) → Gathers e rest right s → measure rest s ≡ m → given ≡ cap m
    → ((m n : Answer Weighed) → given ≡ cap m → right ≡ cap n → result ≡ cap (on_two sum_of m n)) → result ≡ cap (measure e s)
ends e rest right given result s m g is h k =
    k m g.parts h g.right_is ∙ ap cap (ap (λ m. on_two sum_of m g.parts) (sym is) ∙ sym g.whole_is)
