-- A worked case: tests around a read, and a bound of two.
use Rattle.std.specs.Prelude.{◌≡◌, ◌≤◌, ◌^◌, ℤ, pos, negsuc, ◌≤ℤ◌, ◌<ℤ◌, unsigned_abs, true, List, [], ◌∷◌, Ok}
use Rattle.c_tree.specs.declared.index.Index.{Index}
use Rattle.c_tree.specs.declared.index.Index.TheVariants.{Const, Var, At}
use Rattle.c_tree.specs.declared.index.Subscripts.TheVariants.{One}
use Rattle.c_tree.specs.declared.statement.Cmp.{Cmp}
use Rattle.c_tree.specs.declared.statement.Cmp.TheVariants.{AtMost, AtLeast, Same}
use Rattle.c_tree.specs.declared.statement.Test.{Test}
use Rattle.c_meaning.specs.Examples.{i}
use Rattle.c_meaning.specs.Value.{all_hold}
use Rattle.scan_laws.specs.Examples.{x, x_sight, x_sizes}
use Rattle.print_laws.specs.Printed.{AreAsked, IsSized, greatest_of}

abbrev pub test : Index → Cmp → Index → Test
test a c b = record { left = a; cmp = c; right = b }

-- i >= 0 && i <= 3 && x[i] == 5, where x has 4 cells
abbrev pub tests : List Test
tests = test (Var i) AtLeast (Const (pos 0)) ∷ test (Var i) AtMost (Const (pos 3)) ∷ test (At (record { array = x; at = One (Var i) })) Same (Const (pos 5)) ∷ []

abbrev pub WorkedTests : Type 0
WorkedTests = AreAsked x_sizes x_sight tests × (all_hold tests x_sight ≡ Ok true)

-- max(0, i) is 1
abbrev pub WorkedBound : Type 0
WorkedBound = IsSized x_sizes x_sight (2 ^ 24) (greatest_of (Const (pos 0)) (Var i ∷ [])) (pos 1)

-- for a loop variable from -3 to below 5, the values -3 and 4 have sizes of at most 5
abbrev pub WorkedLevel : Type 0
WorkedLevel = (unsigned_abs (negsuc 2) ≤ 5) × (unsigned_abs (pos 4) ≤ 5) × ((v : ℤ) → negsuc 2 ≤ℤ v → v <ℤ pos 5 → unsigned_abs v ≤ 5)
