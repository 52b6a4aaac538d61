-- Tests and bounds as they are printed: tests one after another, and bounds nested to the right.
use Rattle.std.specs.Prelude.{◌≡◌, ℕ, ◌≤◌, ℤ, Bool, true, List, [], ◌∷◌}
use Rattle.c_tree.specs.declared.index.Index.{Index}
use Rattle.c_tree.specs.declared.index.Index.TheVariants.{Min, Max}
use Rattle.c_tree.specs.declared.statement.Test.{Test}
use Rattle.c_meaning.specs.Weighed.{greatest as greatest_weight}
use Rattle.c_meaning.specs.Value.{Sight, compares}
use Rattle.nest_laws.specs.Weights.{Sizes, HasSize}

-- both sides of each test have values of small sizes, so find their reads, where the tests before it are true; behind a false test nothing is asked
pub data AreAsked (z : Sizes) (s : Sight) : List Test → Type 0 where
  none : AreAsked z s []
  next : (t : Test) (ts : List Test) (v w : ℤ) (n m : ℕ) → HasSize z s t.left v n → n ≤ greatest_weight → HasSize z s t.right w m → m ≤ greatest_weight
      → (compares t.cmp v w ≡ true → AreAsked z s ts) → AreAsked z s (t ∷ ts)

-- the expression has the value, and a size of at most n
abbrev pub IsSized : Sizes → Sight → ℕ → Index → ℤ → Type 0
IsSized z s n e v = (k : ℕ) × HasSize z s e v k × (k ≤ n)

abbrev pub greatest_of : Index → List Index → Index
greatest_of t [] = t
greatest_of t (u ∷ us) = Max t (greatest_of u us)

abbrev pub least_of : Index → List Index → Index
least_of t [] = t
least_of t (u ∷ us) = Min t (least_of u us)
