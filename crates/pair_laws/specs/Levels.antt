-- What it means that a level has no dependence.
use Rattle.std.specs.Prelude.{◌≡◌, ℕ, suc, List, map, ℤ, None}
use Rattle.nest_tree.specs.declared.body.Access.{Access}
use Rattle.nest_tree.specs.declared.kernel.Kernel.{Kernel}
use Rattle.nest_tree.specs.declared.kernel.Nest.{Nest}
use Rattle.nest_tree.specs.Carriers.{IsSmallerAt}
use Rattle.nest_tree.specs.Forms.{value}
use Rattle.nest_tree.specs.Kernels.{point}
use Rattle.nest_tree.specs.Systems.{Clash}
use Rattle.nest_tree.specs.Terms.{Input}
use Rattle.point_laws.specs.Ranges.{IsRanged, HasNoCounts}
use Rattle.depend_test.specs.First.{IsFirst}
use Rattle.depend_test.specs.Levels.{IsDecidedAt, access_pairs, level_dependence}
use Rattle.depend_test.specs.Sides.{IsSame, own_levels}
use Rattle.depend_test.specs.declared.side.Side.{Side}
use Rattle.pair_laws.specs.Pairs.{IsSideAt}

-- where no candidate is open at a level, counted from 1, no two instances of the statement that differ first there name one cell by conflicting accesses
abbrev pub LevelHasNoDependence : Type 0
LevelHasNoDependence =
    (k : Kernel) (i : Input) (n : Nest) (s : Side) (statement level : ℕ) (vs us : List ℤ) (a b : Access) → IsRanged k.head k.made i → HasNoCounts k.head k.made → IsSame k.head k.made n s
    → IsFirst (IsDecidedAt k s (suc level)) (level_dependence statement (suc level)) (access_pairs s n.how) None
    → IsSideAt k i n (own_levels k.head n) s vs → IsSideAt k i n (own_levels k.head n) s us → Clash n n a b → map (value (point i n vs)) a.at ≡ map (value (point i n us)) b.at → IsSmallerAt (suc level) vs us → ⊥
