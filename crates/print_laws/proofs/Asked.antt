-- The laws of printed tests and bounds.
use Rattle.std.proofs.Common.{◌≡◌, ◌⊎◌, inl, inr, ℕ, ◌+◌, ◌≤◌, ◌^◌, max, List, [], ◌∷◌, refl, sym, ◌∙◌, ap, subst, arith, ℤ, pos, negsuc, ◌≤ℤ◌, ◌<ℤ◌, unsigned_abs, Bool, true, false}
use Rattle.std.specs.Prelude.{Some, None, Ok, if◌then◌else◌}
use Rattle.std.specs.Int.{int_min, int_max}
use Rattle.std.proofs.lemmas.Int.{ints}
use Rattle.c_tree.specs.declared.index.Index.{Index}
use Rattle.c_tree.specs.declared.index.Index.TheVariants.{Const, Var, At}
use Rattle.c_tree.specs.declared.index.Subscripts.TheVariants.{One}
use Rattle.c_tree.specs.declared.statement.Cmp.TheVariants.{AtMost, AtLeast, Same}
use Rattle.c_tree.specs.declared.statement.Test.{Test}
use Rattle.c_meaning.specs.Value.{Answer, Sight, ◌>>=◌, is_inside, compares, value_of, holds, all_hold}
use Rattle.c_meaning.specs.Examples.{i}
use Rattle.nest_tree.specs.Lists.{Pairwise}
use Rattle.nest_laws.specs.Weights.{Sizes, HasSize, const, name, one, lesser, greater}
use Rattle.nest_laws.proofs.Weights.{small}
use Rattle.scan_laws.specs.Bounds.{greatest, least}
use Rattle.scan_laws.specs.Examples.{x, x_sight, x_sizes}
use Rattle.print_laws.specs.Printed.{AreAsked, none, next, IsSized, greatest_of, least_of}
use Rattle.print_laws.specs.Laws.{AllAreTrue, OrderedTestsHaveAnswer, NestedBoundsHaveValue, LevelKeepsToSize}
use Rattle.print_laws.specs.Examples.{test, tests, WorkedTests, WorkedBound, WorkedLevel}

-- ---- tests
test_is : (s : Sight) (t : Test) (v w : ℤ) → value_of t.left s ≡ Ok v → value_of t.right s ≡ Ok w → holds t s ≡ Ok (compares t.cmp v w)
test_is s t v w p q =
    ap (λ (a : Answer ℤ). a >>= (λ x. value_of t.right s >>= (λ y. Ok (compares t.cmp x y)))) p ∙ ap (λ (a : Answer ℤ). a >>= (λ y. Ok (compares t.cmp v y))) q

abbrev Answers : List Test → Sight → Type 0
Answers ts s = (b : Bool) × (all_hold ts s ≡ Ok b) × (b ≡ true → AllAreTrue ts s) × (AllAreTrue ts s → b ≡ true)

ok-one : (a b : Bool) → (let p : Answer Bool = Ok a in p) ≡ Ok b → a ≡ b
ok-one a b h = cc

-- one test in front of others
one_more : (s : Sight) (t : Test) (ts : List Test) (c : Bool) → holds t s ≡ Ok c → (c ≡ true → Answers ts s) → Answers (t ∷ ts) s
one_more s t ts false h rest = (
  false,
  ap (λ (a : Answer Bool). a >>= (λ b. if b then all_hold ts s else Ok false)) h,
  λ e. absurd cc,
  λ w. absurd (let f : false ≡ true = ok-one false true (sym h ∙ w.0) in cc),
)
one_more s t ts true h rest =
    let r = rest refl in (
      r.0,
      ap (λ (a : Answer Bool). a >>= (λ b. if b then all_hold ts s else Ok false)) h ∙ r.1,
      λ e. (h, r.2 e),
      λ w. r.3 w.1,
    )

pub ordered : OrderedTestsHaveAnswer
ordered z s _ none = (true, refl, λ e. tt, λ w. refl)
ordered z s _ (next t ts v w n m h l g o rest) =
    let c : holds t s ≡ Ok (compares t.cmp v w) = test_is s t v w (small z s t.left v n h l).0 (small z s t.right w m g o).0 in
    one_more s t ts (compares t.cmp v w) c (λ e. ordered z s ts (rest e))

-- ---- bounds
max-within : (k l n : ℕ) → k ≤ n → l ≤ n → max k l ≤ n
max-within k l n p q = omega arith

pub nested : NestedBoundsHaveValue
nested z s n t [] v [] h = (h.0, h.0)
nested z s n t [] v (w ∷ vs) h = absurd h.1
nested z s n t (u ∷ us) v [] h = absurd h.1
nested z s n t (u ∷ us) v (w ∷ vs) h =
    let r = nested z s n u us w vs h.1 in
    let a = h.0 in
    let b = r.0 in
    let c = r.1 in (
      (max a.0 b.0, greater t (greatest_of u us) v (greatest (w ∷ vs)) a.0 b.0 a.1 b.1, max-within a.0 b.0 n a.2 b.2),
      (max a.0 c.0, lesser t (least_of u us) v (least (w ∷ vs)) a.0 c.0 a.1 c.1, max-within a.0 c.0 n a.2 c.2),
    )

pub level : LevelKeepsToSize
level low high v n a b l u = grind (arith, ints)

-- ---- worked cases
asked : AreAsked x_sizes x_sight tests
asked =
    next _ _ (pos 1) (pos 0) (2 ^ 24) 0 (name i (omega arith)) (omega arith) (const (pos 0)) (omega arith)
    (λ e. next _ _ (pos 1) (pos 3) (2 ^ 24) 3 (name i (omega arith)) (omega arith) (const (pos 3)) (omega arith)
    (λ f. next _ _ (pos 5) (pos 5) (2 ^ 24) 5 (one x (Var i) (pos 1) (pos 5) (2 ^ 24) (name i (omega arith)) (omega arith) refl (omega arith)) (omega arith) (const (pos 5)) (omega arith) (λ g. none)))

pub worked_tests : WorkedTests
worked_tests = (asked, (let r = ordered x_sizes x_sight tests asked in r.1 ∙ ap (λ (b : Bool). let a : Answer Bool = Ok b in a) (r.3 all_true)))
  where
    all_true : AllAreTrue tests x_sight
    all_true = (
      test_is x_sight (test (Var i) AtLeast (Const (pos 0))) (pos 1) (pos 0) (small x_sizes x_sight (Var i) (pos 1) (2 ^ 24) (name i (omega arith)) (omega arith)).0 (small x_sizes x_sight (Const (pos 0)) (pos 0) 0 (const (pos 0)) (omega arith)).0,
      (
        test_is x_sight (test (Var i) AtMost (Const (pos 3))) (pos 1) (pos 3) (small x_sizes x_sight (Var i) (pos 1) (2 ^ 24) (name i (omega arith)) (omega arith)).0 (small x_sizes x_sight (Const (pos 3)) (pos 3) 3 (const (pos 3)) (omega arith)).0,
        (
          test_is x_sight (test (At (record { array = x; at = One (Var i) })) Same (Const (pos 5))) (pos 5) (pos 5) (small x_sizes x_sight (At (record { array = x; at = One (Var i) })) (pos 5) (2 ^ 24) (one x (Var i) (pos 1) (pos 5) (2 ^ 24) (name i (omega arith)) (omega arith) refl (omega arith)) (omega arith)).0 (small x_sizes x_sight (Const (pos 5)) (pos 5) 5 (const (pos 5)) (omega arith)).0,
          tt,
        ),
      ),
    )

pub worked_bound : WorkedBound
worked_bound = (nested x_sizes x_sight (2 ^ 24) (Const (pos 0)) (Var i ∷ []) (pos 0) (pos 1 ∷ []) ((0, const (pos 0), omega arith), ((2 ^ 24, name i (omega arith), omega arith), tt))).0

pub worked_level : WorkedLevel
worked_level = (
  level (negsuc 2) (pos 5) (negsuc 2) 5 (omega arith) (omega arith) (omega (arith, ints)) (omega (arith, ints)),
  level (negsuc 2) (pos 5) (pos 4) 5 (omega arith) (omega arith) (omega (arith, ints)) (omega (arith, ints)),
  λ v l u. level (negsuc 2) (pos 5) v 5 (omega arith) (omega arith) l u,
)
