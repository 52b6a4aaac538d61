-- Worked cases: a form, bounds and a test that hold a read in the argument of another.
use Rattle.std.specs.Prelude.{◌≡◌, ℕ, List, [], ◌∷◌, map, pos, negsuc, true, false, if◌then◌else◌, Ok}
use Rattle.std.specs.List.{AllByRecursion}
use Rattle.c_tree.specs.declared.index.Index.{Index}
use Rattle.c_tree.specs.declared.index.Index.TheVariants.{Const, Var, At, Minus, Times, Ceil}
use Rattle.c_tree.specs.declared.statement.Cmp.TheVariants.{AtLeast}
use Rattle.c_tree.specs.declared.statement.Test.{Test}
use Rattle.c_meaning.specs.Names.{same_name}
use Rattle.c_meaning.specs.Value.{Sight, cell_seen, value_of, holds}
use Rattle.c_meaning.specs.Listing.{Scene}
use Rattle.nest_tree.specs.Loops.{Levels}
use Rattle.nest_tree.specs.Terms.{Input}
use Rattle.nest_laws.specs.Acts.{three}
use Rattle.scan_forms.specs.declared.affine.Affine.{Affine}
use Rattle.scan_forms.specs.declared.bounds.Bound.{Bound}
use Rattle.scan_forms.specs.declared.claim.Claim.{Claim}
use Rattle.scan_forms.specs.Bounds.{bounds_of}
use Rattle.loop_scan.specs.declared.sides.Sides.{Sides}
use Rattle.scanning.specs.Kernels.{product, index, col, t1, t2, m, cell}
use Rattle.scanning.specs.Named.{named}
use Rattle.scanning.specs.Parts.{Opened, sizes_of}
use Rattle.scanning.specs.Sizes.{Sizes}
use Rattle.scanning.specs.Written.{form_printed, lower_printed, test_printed}
use Rattle.scanning_laws.specs.Examples.{nested_reads}
use Rattle.scanning_laws.specs.Derived.{seen_in}
use Rattle.printed_laws.specs.Printed.{Sees}
use Rattle.printed_laws.specs.Laws.{worth}
use Rattle.printed_laws.specs.Loops.{low_of, high_of, own_low, own_high}
use Rattle.printed_laws.specs.Opened.{AreSides}
use Rattle.printed_laws.specs.Assigned.{IsInnerRow}
use Rattle.printed_laws.specs.Between.{HoldsWith}

-- t1 is 1, and each parameter 2; index and col have 3 cells, those of index hold 1 and those of col 2
abbrev pub sight : Sight
sight = record { value = λ x. if same_name x t1 then pos 1 else pos 2; extents = λ a. pos 3 ∷ pos 1 ∷ pos 1 ∷ []; index = λ a at. if same_name a index then pos 1 else pos 2 }

abbrev pub input : Input
input = record { params = pos 2 ∷ pos 2 ∷ pos 2 ∷ []; cells = λ a at. cell_seen sight a (three at) }

abbrev pub levels : Levels
levels = pos 1 ∷ []

abbrev pub sizes : Sizes
sizes = 8 ∷ []

-- 2*col[index[t1]] - 3
abbrev pub twice_column : Affine
twice_column = record { params = []; levels = []; reads = pos 0 ∷ pos 2 ∷ []; constant = negsuc 2 }

abbrev pub printed : Index
printed = Minus (Times (pos 2) (At (cell col (At (cell index (Var t1)))))) (Const (pos 3))

-- it is printed so, and is 1
abbrev pub WorkedForm : Type 0
WorkedForm = (form_printed product nested_reads [] sizes 0 twice_column ≡ Ok printed) × (worth input nested_reads levels twice_column ≡ pos 1) × (value_of printed sight ≡ Ok (pos 1))

abbrev pub eighth : Bound
eighth = record { form = twice_column; divisor = pos 8 }

-- the least integer that isn't below 1/8 is 1
abbrev pub WorkedBound : Type 0
WorkedBound = (m : ℕ) × (lower_printed product nested_reads [] sizes 0 eighth ≡ Ok (Ceil printed (pos 8), m)) × (value_of (Ceil printed (pos 8)) sight ≡ Ok (pos 1))

abbrev pub asked : Test
asked = record { left = printed; cmp = AtLeast; right = Const (pos 0) }

-- the claim that the form is at least 0 is printed as a test that is true
abbrev pub WorkedTest : Type 0
WorkedTest = (test_printed product nested_reads [] sizes 0 (record { equal = false; form = twice_column }) ≡ Ok asked) × (holds asked sight ≡ Ok true)

-- ---- the rows t2 - index[t1] >= 0 and -2*t2 + col[index[t1]] + 3 >= 0
abbrev pub from_index : Claim
from_index = record { equal = false; form = record { params = []; levels = pos 0 ∷ pos 1 ∷ []; reads = negsuc 0 ∷ []; constant = pos 0 } }

abbrev pub twice_to_column : Claim
twice_to_column = record { equal = false; form = record { params = []; levels = pos 0 ∷ negsuc 1 ∷ []; reads = pos 0 ∷ pos 1 ∷ []; constant = pos 3 } }

abbrev pub rows : List Claim
rows = from_index ∷ twice_to_column ∷ []

-- their bounds are 1 and 3; with the value 2 both hold
abbrev pub WorkedRows : Type 0
WorkedRows =
    (map (low_of input nested_reads levels) (bounds_of 2 rows).lower ≡ pos 1 ∷ []) × (map (high_of input nested_reads levels) (bounds_of 2 rows).upper ≡ pos 3 ∷ [])
    × AllByRecursion (HoldsWith input nested_reads levels (pos 2)) rows

-- in two loops the second level's variable has the second value, and a parameter the value that it has outside
abbrev pub opened_of_size : ℕ → Opened
opened_of_size n = record { low = Const (pos 0); high = Const (pos n); size = n; tests = []; asked = []; known = []; settled = λ s. [] }

abbrev pub scene : Scene
scene = record { sight = sight; inside = λ x. true }

abbrev pub two_loops : List Opened
two_loops = opened_of_size 8 ∷ opened_of_size 9 ∷ []

abbrev pub WorkedLevels : Type 0
WorkedLevels =
    Sees product input (sizes_of two_loops) (pos 4 ∷ pos 7 ∷ []) (seen_in scene two_loops (pos 4 ∷ pos 7 ∷ []))
    × ((seen_in scene two_loops (pos 4 ∷ pos 7 ∷ [])).value t2 ≡ pos 7) × ((seen_in scene two_loops (pos 4 ∷ pos 7 ∷ [])).value m ≡ pos 2)

-- ---- a statement that is bounded by these rows: from 1 to below 3
abbrev pub sides : Sides
sides = record { used = rows; order = 0 ∷ 1 ∷ []; bounds = bounds_of 2 rows }

abbrev pub WorkedSides : Type 0
WorkedSides = AreSides input nested_reads levels sides × (own_low input nested_reads levels sides ≡ pos 1) × (own_high input nested_reads levels sides ≡ pos 3)

-- inside the loop of t1 the row 2*col[index[t1]] - 3 >= 0 names only levels around; its reads are index[t1], and behind it col[index[t1]]
abbrev pub WorkedInnerRow : Type 0
WorkedInnerRow = IsInnerRow input nested_reads levels (record { equal = false; form = twice_column }) × (named nested_reads [] twice_column ≡ 0 ∷ 1 ∷ [])
