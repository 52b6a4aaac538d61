-- What it means that a candidate is decided: no two instances name one cell and change their order as it says.
use Rattle.std.specs.Prelude.{◌≡◌, true, List, map, ℤ}
use Rattle.int_rows.specs.declared.row.Aff.{Aff}
use Rattle.nest_tree.specs.declared.kernel.Kernel.{Kernel}
use Rattle.nest_tree.specs.declared.kernel.Nest.{Nest}
use Rattle.nest_tree.specs.Lists.{IsIn}
use Rattle.nest_tree.specs.Forms.{value}
use Rattle.nest_tree.specs.Kernels.{point}
use Rattle.nest_tree.specs.Terms.{Input}
use Rattle.nest_systems.specs.Cells.{cells}
use Rattle.point_laws.specs.Ranges.{IsRanged, HasNoCounts}
use Rattle.depend_test.specs.Candidates.{Candidate, IsDecided}
use Rattle.pair_laws.specs.Pairs.{IsSideAt, StandBefore}

-- where a candidate is excluded, no two points of its statements name one cell by its accesses and have its old order and the opposite new one
abbrev pub ExcludedHasNoInstances : Type 0
ExcludedHasNoInstances =
    (k : Kernel) (i : Input) (n m : Nest) (fs gs : List Aff) (c : Candidate) (vs us : List ℤ) → IsRanged k.head k.made i → HasNoCounts k.head k.made
    → IsDecided k c true → IsSideAt k i n fs c.one vs → IsSideAt k i m gs c.other us → IsIn c.first (cells n) → IsIn c.second (cells m)
    → map (value (point i n vs)) c.first.at ≡ map (value (point i m us)) c.second.at
    → StandBefore c.carried.old c.orders.old_shared (map (value (point i n vs)) fs) (map (value (point i m us)) gs) → StandBefore c.carried.new c.orders.new_shared us vs → ⊥
