-- Expressions that have a value, with a bound on its weight.
use Rattle.std.proofs.Common.{◌≡◌, refl, sym, ap, ◌∙◌, subst, ℕ, zero, suc, ◌+◌, ◌*◌, ◌/◌, max, ◌≤◌, ℤ, pos, negsuc, ◌+ℤ◌, ◌-ℤ◌, ◌*ℤ◌, neg_ℤ, Bool, true, false, cond, List, Option, Some, None, Ok, arith, unsigned_abs}
use Rattle.std.proofs.lemmas.Int.{ints}
use Rattle.std.proofs.Math.Nat.{mul-le-mul_left, one-mul, zero-mul, div-le_self}
use Rattle.std.specs.Ordering.{int_eq}
use Rattle.std.specs.Int.Signed.{lt_z}
use Rattle.std.proofs.lemmas.Bool.Decides.{Decides-int_eq}
use Rattle.c_tree.specs.declared.index.Index.{Index}
use Rattle.c_tree.specs.declared.index.Index.TheVariants.{Const, Var, Neg, Plus, Minus, Times, Floor, Ceil, Max}
use Rattle.c_meaning.specs.Weighed.{Weighed, greatest, plain, negated, sum_of, difference_of, multiple_of, greater_of, floor_of, ceil_of}
use Rattle.c_meaning.specs.Value.{Sight, measure, value_of, on_one, on_two}
use Rattle.c_meaning.proofs.Equations.{measure-Const, measure-Var, measure-Neg, measure-Times, measure-Ceil, measure-Max}
use Rattle.std.specs.Int.{int_div_euclid, int_max}
use Rattle.inspectors.specs.Trees.{with_multiple, joined, multiple, with_constant, first_part, next_part}
use Rattle.inspector_runs.proofs.Values.{value_by, measure_plus, measure_minus, measure_floor}

-- the expression has this value, and its weight is at most w
pub record Bounded (e : Index) (s : Sight) (v : ℤ) (w : ℕ) : Type 0 where
  pub found : Weighed
  pub is : measure e s ≡ Ok found
  pub value : found.value ≡ v
  pub weight : found.weight ≤ w
  pub covers : unsigned_abs found.value ≤ found.weight

-- sizes of what is computed
neg_size : (a : ℤ) → unsigned_abs (neg_ℤ a) ≤ unsigned_abs a
neg_size a = grind (arith, ints)

sum_size : (a b : ℤ) → unsigned_abs (a +ℤ b) ≤ unsigned_abs a + unsigned_abs b
sum_size a b = grind (arith, ints)

less_size : (a b : ℤ) → unsigned_abs (a -ℤ b) ≤ unsigned_abs a + unsigned_abs b
less_size a b = grind (arith, ints)

neg_pos_size : (k : ℕ) → unsigned_abs (neg_ℤ (pos k)) ≡ k
neg_pos_size zero = refl
neg_pos_size (suc k) = refl

times_size : (a b : ℤ) → unsigned_abs (a *ℤ b) ≡ unsigned_abs a * unsigned_abs b
times_size (pos a) (pos b) = refl
times_size (pos a) (negsuc b) = neg_pos_size (a * suc b)
times_size (negsuc a) (pos b) = neg_pos_size (suc a * b)
times_size (negsuc a) (negsuc b) = refl

floor_size : (a : ℤ) (t : ℕ) → unsigned_abs (int_div_euclid a (pos t)) ≤ unsigned_abs a
floor_size (pos a) t = div-le_self a t
floor_size (negsuc a) t = let h : a / t ≤ a = div-le_self a t in let k : suc (a / t) ≤ suc a = omega (arith, h) in k

both : (a b c d e : ℕ) → e ≤ a + b → a ≤ c → b ≤ d → e ≤ c + d
both a b c d e p q r = omega (arith, p, q, r)

via : (a b c : ℕ) → a ≤ b → b ≤ c → a ≤ c
via a b c p q = omega (arith, p, q)

pub value_covered : (e : Index) (s : Sight) (v : ℤ) (w : ℕ) → Bounded e s v w → unsigned_abs v ≤ w
value_covered e s v w b = subst (λ v. unsigned_abs v ≤ w) b.value (via (unsigned_abs b.found.value) b.found.weight w b.covers b.weight)

pub value_bounded : (e : Index) (s : Sight) (v : ℤ) (w : ℕ) → Bounded e s v w → w ≤ greatest → value_of e s ≡ Ok v
value_bounded e s v w b h = value_by e s b.found b.is (let l : b.found.weight ≤ greatest = let k = b.weight in omega (arith, k, h) in l) ∙ ap Ok b.value

pub bounded_as : (e : Index) (s : Sight) (v u : ℤ) (w y : ℕ) → v ≡ u → w ≤ y → Bounded e s v w → Bounded e s u y
bounded_as e s v u w y p q b = record { found = b.found; is = b.is; value = b.value ∙ p; weight = (let k = b.weight in omega (arith, k, q)); covers = b.covers }

pub bounded_plain : (e : Index) (s : Sight) (v : ℤ) (w : ℕ) → measure e s ≡ Ok (plain v) → unsigned_abs v ≤ w → Bounded e s v w
bounded_plain e s v w h k = record { found = plain v; is = h; value = refl; weight = k; covers = omega arith }

pub bounded_const : (n : ℤ) (s : Sight) (w : ℕ) → unsigned_abs n ≤ w → Bounded (Const n) s n w
bounded_const n s w h = bounded_plain (Const n) s n w (measure-Const n s) h

pub bounded_var : (x : List ℕ) (s : Sight) (n w : ℕ) → s.value x ≡ pos n → n ≤ w → Bounded (Var x) s (pos n) w
bounded_var x s n w e h = bounded_plain (Var x) s (pos n) w (measure-Var x s ∙ ap (λ v. Ok (plain v)) e) h

pub bounded_neg : (e : Index) (s : Sight) (v : ℤ) (w : ℕ) → Bounded e s v w → Bounded (Neg e) s (neg_ℤ v) w
bounded_neg e s v w b = record { found = negated b.found; is = measure-Neg e s ∙ ap (on_one negated) b.is; value = ap neg_ℤ b.value; weight = b.weight; covers = via _ _ _ (neg_size b.found.value) b.covers }

pub bounded_plus : (e f : Index) (s : Sight) (v u : ℤ) (w y : ℕ) → Bounded e s v w → Bounded f s u y → Bounded (Plus e f) s (v +ℤ u) (w + y)
bounded_plus e f s v u w y b c = record {
  found = sum_of b.found c.found;
  is = measure_plus e f s b.found c.found b.is c.is;
  value = ap (λ x. x +ℤ c.found.value) b.value ∙ ap (λ x. v +ℤ x) c.value;
  weight = (let k = b.weight in let l = c.weight in omega (arith, k, l));
  covers = both _ _ _ _ _ (sum_size b.found.value c.found.value) b.covers c.covers;
}

pub bounded_minus : (e f : Index) (s : Sight) (v u : ℤ) (w y : ℕ) → Bounded e s v w → Bounded f s u y → Bounded (Minus e f) s (v -ℤ u) (w + y)
bounded_minus e f s v u w y b c = record {
  found = difference_of b.found c.found;
  is = measure_minus e f s b.found c.found b.is c.is;
  value = ap (λ x. x -ℤ c.found.value) b.value ∙ ap (λ x. v -ℤ x) c.value;
  weight = (let k = b.weight in let l = c.weight in omega (arith, k, l));
  covers = both _ _ _ _ _ (less_size b.found.value c.found.value) b.covers c.covers;
}

pub bounded_times : (n : ℤ) (e : Index) (s : Sight) (v : ℤ) (w y : ℕ) → unsigned_abs n * w ≤ y → Bounded e s v w → Bounded (Times n e) s (n *ℤ v) y
bounded_times n e s v w y h b = record {
  found = multiple_of n b.found;
  is = measure-Times n e s ∙ ap (on_one (multiple_of n)) b.is;
  value = ap (λ x. n *ℤ x) b.value;
  weight = (let k : unsigned_abs n * b.found.weight ≤ unsigned_abs n * w = mul-le-mul_left (unsigned_abs n) b.weight in omega (arith, k, h));
  covers = subst (λ k. k ≤ unsigned_abs n * b.found.weight) (sym (times_size n b.found.value)) (mul-le-mul_left (unsigned_abs n) b.covers);
}

pub bounded_floor : (e : Index) (t : ℕ) (s : Sight) (v : ℤ) (w : ℕ) → Bounded e s v w → Bounded (Floor e (pos t)) s (int_div_euclid v (pos t)) w
bounded_floor e t s v w b = record {
  found = floor_of b.found (pos t);
  is = measure_floor e (pos t) s b.found b.is;
  value = ap (λ x. int_div_euclid x (pos t)) b.value;
  weight = b.weight;
  covers = via _ _ _ (floor_size b.found.value t) b.covers;
}

pub bounded_ceil : (e : Index) (t : ℕ) (s : Sight) (v : ℤ) (w : ℕ) → Bounded e s v w → Bounded (Ceil e (pos t)) s (neg_ℤ (int_div_euclid (neg_ℤ v) (pos t))) w
bounded_ceil e t s v w b = record {
  found = ceil_of b.found (pos t);
  is = measure-Ceil e (pos t) s ∙ ap (on_one (λ x. ceil_of x (pos t))) b.is;
  value = ap (λ x. neg_ℤ (int_div_euclid (neg_ℤ x) (pos t))) b.value;
  weight = b.weight;
  covers = via _ _ _ (neg_size (int_div_euclid (neg_ℤ b.found.value) (pos t))) (via _ _ _ (floor_size (neg_ℤ b.found.value) t) (via _ _ _ (neg_size b.found.value) b.covers));
}

-- a number that isn't below 0
abbrev pub natural : ℤ → ℕ
natural (pos n) = n
natural (negsuc n) = 0

pub not_negative : (w : ℤ) → int_max (pos 0) w ≡ pos (natural w)
not_negative (pos n) = grind (arith, ints)
not_negative (negsuc n) = grind (arith, ints)

natural_size : (w : ℤ) → natural w ≤ unsigned_abs w
natural_size (pos n) = omega arith
natural_size (negsuc n) = omega arith

none_or_more : (n : ℕ) → max 0 n ≡ n
none_or_more n = grind arith

pub bounded_natural : (e : Index) (s : Sight) (v : ℤ) (w : ℕ) → Bounded e s v w → Bounded (Max (Const (pos 0)) e) s (pos (natural v)) w
bounded_natural e s v w b = record {
  found = greater_of (plain (pos 0)) b.found;
  is = measure-Max (Const (pos 0)) e s ∙ ap (λ a. on_two greater_of a (measure e s)) (measure-Const (pos 0) s) ∙ ap (on_two greater_of (Ok (plain (pos 0)))) b.is;
  value = not_negative b.found.value ∙ ap (λ x. pos (natural x)) b.value;
  weight = subst (λ n. n ≤ w) (sym (none_or_more b.found.weight)) b.weight;
  covers = subst (λ x. unsigned_abs x ≤ max 0 b.found.weight) (sym (not_negative b.found.value))
      (subst (λ n. natural b.found.value ≤ n) (sym (none_or_more b.found.weight)) (via _ _ _ (natural_size b.found.value) b.covers));
}

-- sums as they are printed: none yet, or an expression
abbrev pub HasSum : Option Index → Sight → ℤ → ℕ → Type 0
HasSum None s v w = v ≡ pos 0
HasSum (Some e) s v w = Bounded e s v w

pub sum_as : (o : Option Index) (s : Sight) (v u : ℤ) (w y : ℕ) → v ≡ u → w ≤ y → HasSum o s v w → HasSum o s u y
sum_as None s v u w y p q h = sym p ∙ h
sum_as (Some e) s v u w y p q h = bounded_as e s v u w y p q h

abbrev signed : Bool → ℤ → ℤ
signed true v = neg_ℤ v
signed false v = v

first_has : (n : Bool) (p : Index) (s : Sight) (q : ℤ) (y : ℕ) → Bounded p s q y → Bounded (first_part n p) s (signed n q) y
first_has true p s q y b = bounded_neg p s q y b
first_has false p s q y b = b

next_has : (e : Index) (n : Bool) (p : Index) (s : Sight) (v q : ℤ) (w y : ℕ) → Bounded e s v w → Bounded p s q y → Bounded (next_part e n p) s (v +ℤ signed n q) (w + y)
next_has e true p s v q w y a b = bounded_minus e p s v q w y a b
next_has e false p s v q w y a b = bounded_plus e p s v q w y a b

from_zero : (v q : ℤ) → v ≡ pos 0 → q ≡ v +ℤ q
from_zero v q h = omega (arith, ints, h)

joined_has : (o : Option Index) (n : Bool) (p : Index) (s : Sight) (v q : ℤ) (w y : ℕ) → HasSum o s v w → Bounded p s q y → Bounded (joined o n p) s (v +ℤ signed n q) (w + y)
joined_has None n p s v q w y h b = bounded_as (first_part n p) s (signed n q) (v +ℤ signed n q) y (w + y) (from_zero v (signed n q) h) (omega arith) (first_has n p s q y b)
joined_has (Some e) n p s v q w y h b = next_has e n p s v q w y h b

-- a number is its size with its sign
sign_times : (z : ℤ) (u : ℕ) → signed (lt_z z (pos 0)) (pos (unsigned_abs z) *ℤ pos u) ≡ z *ℤ pos u
sign_times (pos n) u = let e : lt_z (pos n) (pos 0) ≡ false = grind (arith, ints) in ap (λ b. signed b (pos n *ℤ pos u)) e
sign_times (negsuc n) u = refl

sign_of : (z : ℤ) → signed (lt_z z (pos 0)) (pos (unsigned_abs z)) ≡ z
sign_of (pos n) = let e : lt_z (pos n) (pos 0) ≡ false = grind (arith, ints) in ap (λ b. signed b (pos n)) e
sign_of (negsuc n) = refl

multiple_has : (k : ℕ) (e : Index) (s : Sight) (u y w : ℕ) → k * y ≤ w → y ≤ w → Bounded e s (pos u) y → Bounded (multiple (pos k) e) s (pos k *ℤ pos u) w
multiple_has k e s u y w h l b = by _ refl
  where
    by : (c : Bool) → int_eq (pos k) (pos 1) ≡ c → Bounded (cond c e (Times (pos k) e)) s (pos k *ℤ pos u) w
    by true q =
        let p : pos k ≡ pos 1 = (Decides-int_eq (pos k) (pos 1)).0 q in
        bounded_as e s (pos u) (pos k *ℤ pos u) y w (sym (ap (λ x. x *ℤ pos u) p ∙ ap pos (one-mul u))) l b
    by false q = bounded_times (pos k) e s (pos u) y w h b

-- a sum with a multiple of a factor, which needs no value where the multiple is 0
pub has_multiple : (o : Option Index) (z : ℤ) (e : Index) (s : Sight) (v : ℤ) (u w y p : ℕ) → unsigned_abs z * y ≤ p → y ≤ p → HasSum o s v w → ((z ≡ pos 0 → ⊥) → Bounded e s (pos u) y) → HasSum (with_multiple o z e) s (v +ℤ (z *ℤ pos u)) (w + p)
unfolding with_multiple
has_multiple o z e s v u w y p h l a f = by _ refl
  where
    zero_times : (z : ℤ) → z ≡ pos 0 → v ≡ v +ℤ (z *ℤ pos u)
    zero_times z e = subst (λ z. v ≡ v +ℤ (z *ℤ pos u)) (sym e) (let k : pos 0 *ℤ pos u ≡ pos 0 = ap pos (zero-mul u) in omega (arith, ints, k))

    not_zero : int_eq z (pos 0) ≡ false → z ≡ pos 0 → ⊥
    not_zero q e = let k : int_eq z (pos 0) ≡ true = (Decides-int_eq z (pos 0)).1 e in absurd (grind (arith, k, q))

    by : (b : Bool) → int_eq z (pos 0) ≡ b → HasSum (cond b o (Some (joined o (lt_z z (pos 0)) (multiple (pos (unsigned_abs z)) e)))) s (v +ℤ (z *ℤ pos u)) (w + p)
    by true q = sum_as o s v (v +ℤ (z *ℤ pos u)) w (w + p) (zero_times z ((Decides-int_eq z (pos 0)).0 q)) (omega arith) a
    by false q =
        bounded_as (joined o (lt_z z (pos 0)) (multiple (pos (unsigned_abs z)) e)) s (v +ℤ signed (lt_z z (pos 0)) (pos (unsigned_abs z) *ℤ pos u)) (v +ℤ (z *ℤ pos u)) (w + p) (w + p)
        (ap (λ x. v +ℤ x) (sign_times z u)) (omega arith)
        (joined_has o (lt_z z (pos 0)) _ s v (pos (unsigned_abs z) *ℤ pos u) w p a (multiple_has (unsigned_abs z) e s u y p h l (f (not_zero q))))

-- a sum with a constant is an expression
pub has_constant : (o : Option Index) (z : ℤ) (s : Sight) (v : ℤ) (w p : ℕ) → unsigned_abs z ≤ p → HasSum o s v w → Bounded (with_constant o z) s (v +ℤ z) (w + p)
unfolding with_constant
has_constant None z s v w p h a =
    bounded_as (first_part (lt_z z (pos 0)) (Const (pos (unsigned_abs z)))) s (signed (lt_z z (pos 0)) (pos (unsigned_abs z))) (v +ℤ z) p (w + p) (sign_of z ∙ from_zero v z a) (omega arith)
    (first_has (lt_z z (pos 0)) (Const (pos (unsigned_abs z))) s (pos (unsigned_abs z)) p (bounded_const (pos (unsigned_abs z)) s p h))
has_constant (Some e) z s v w p h a = by _ refl
  where
    none : int_eq (pos (unsigned_abs z)) (pos 0) ≡ true → v ≡ v +ℤ z
    none q = let k : pos (unsigned_abs z) ≡ pos 0 = (Decides-int_eq (pos (unsigned_abs z)) (pos 0)).0 q in let l : z ≡ pos 0 = sym (sign_of z) ∙ ap (signed (lt_z z (pos 0))) k ∙ nothing (lt_z z (pos 0)) in omega (arith, ints, l)
      where
        nothing : (b : Bool) → signed b (pos 0) ≡ pos 0
        nothing true = refl
        nothing false = refl

    by : (b : Bool) → int_eq (pos (unsigned_abs z)) (pos 0) ≡ b → Bounded (cond b e (next_part e (lt_z z (pos 0)) (Const (pos (unsigned_abs z))))) s (v +ℤ z) (w + p)
    by true q = bounded_as e s v (v +ℤ z) w (w + p) (none q) (omega arith) a
    by false q =
        bounded_as (next_part e (lt_z z (pos 0)) (Const (pos (unsigned_abs z)))) s (v +ℤ signed (lt_z z (pos 0)) (pos (unsigned_abs z))) (v +ℤ z) (w + p) (w + p) (ap (λ x. v +ℤ x) (sign_of z)) (omega arith)
        (next_has e (lt_z z (pos 0)) (Const (pos (unsigned_abs z))) s v (pos (unsigned_abs z)) w p a (bounded_const (pos (unsigned_abs z)) s p h))
