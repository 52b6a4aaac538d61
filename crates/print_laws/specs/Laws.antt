-- Laws of printed tests and bounds.
use Rattle.std.specs.Prelude.{◌≡◌, ℕ, ◌≤◌, ℤ, pos, ◌≤ℤ◌, ◌<ℤ◌, neg_ℤ, unsigned_abs, Bool, true, List, [], ◌∷◌, Ok}
use Rattle.std.specs.Int.{int_div_euclid}
use Rattle.std.specs.List.{AllByRecursion}
use Rattle.c_tree.specs.declared.index.Index.{Index}
use Rattle.c_tree.specs.declared.index.Index.TheVariants.{Neg, Ceil}
use Rattle.c_tree.specs.declared.statement.Test.{Test}
use Rattle.c_meaning.specs.Value.{Sight, holds, all_hold}
use Rattle.nest_tree.specs.Lists.{Pairwise}
use Rattle.nest_laws.specs.Weights.{Sizes}
use Rattle.scan_laws.specs.Bounds.{greatest, least}
use Rattle.print_laws.specs.Printed.{AreAsked, IsSized, greatest_of, least_of}

abbrev pub AllAreTrue : List Test → Sight → Type 0
AllAreTrue ts s = AllByRecursion (λ t. holds t s ≡ Ok true) ts

-- tests that are asked in order have an answer and no fault, and it is true exactly where all of them are
abbrev pub OrderedTestsHaveAnswer : Type 0
OrderedTestsHaveAnswer =
    (z : Sizes) (s : Sight) (ts : List Test) → AreAsked z s ts → (b : Bool) × (all_hold ts s ≡ Ok b) × (b ≡ true → AllAreTrue ts s) × (AllAreTrue ts s → b ≡ true)

-- nested expressions of some values have the greatest and the least of these, and no greater size
abbrev pub NestedBoundsHaveValue : Type 0
NestedBoundsHaveValue =
    (z : Sizes) (s : Sight) (n : ℕ) (t : Index) (ts : List Index) (v : ℤ) (vs : List ℤ) → Pairwise (IsSized z s n) (t ∷ ts) (v ∷ vs)
    → IsSized z s n (greatest_of t ts) (greatest (v ∷ vs)) × IsSized z s n (least_of t ts) (least (v ∷ vs))

-- a value from one number to below another is no greater in size than these
abbrev pub LevelKeepsToSize : Type 0
LevelKeepsToSize = (low high v : ℤ) (n : ℕ) → unsigned_abs low ≤ n → unsigned_abs high ≤ n → low ≤ℤ v → v <ℤ high → unsigned_abs v ≤ n
