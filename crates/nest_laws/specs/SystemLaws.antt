-- The law of the dependence test: where all systems are excluded, conflicting assignments keep their order, so the effect stays.
use Rattle.std.specs.Prelude.{◌≡◌, suc, Bool, List, length}
use Rattle.int_rows.specs.declared.row.Row.{Row}
use Rattle.c_meaning.specs.Memory.{Cells}
use Rattle.c_meaning.specs.Ground.{Step}
use Rattle.nest_tree.specs.declared.kernel.Nest.{Nest}
use Rattle.nest_tree.specs.Lists.{IsIn}
use Rattle.nest_tree.specs.Places.{Item, Precedes}
use Rattle.nest_tree.specs.Effects.{KeepsOrder}
use Rattle.nest_tree.specs.Terms.{Input}
use Rattle.nest_tree.specs.Kernels.{IsKernelList, AreDistinct}
use Rattle.nest_tree.specs.Moving.{Move, Goes, StandsFor, IsMade, ArePieces}
use Rattle.nest_tree.specs.Systems.{HoldTogether, SubscriptsFit, AllAreExcluded, OthersKeepOrder}
use Rattle.nest_laws.specs.Acts.{act}
use Rattle.nest_laws.specs.ListLaws.{AreInConflict, effect_of}

-- pieces that make a new kernel out of an old one, and a test of theirs in which all systems are excluded
pub record IsTested (i : Input) (moves : List Move) (applies : Move → Bool) (further : Move → Move → List Row) (nests new : List Nest) : Type 0 where
  pub made : IsMade moves nests new
  pub stands : (m : Move) → IsIn m moves → StandsFor act i m
  pub pieces : ArePieces i moves nests
  pub distinct : AreDistinct nests
  pub shapes : (m : Move) → IsIn m moves → length (m.piece).positions ≡ suc (length (m.piece).levels)
  pub further_rows : HoldTogether i further moves
  pub subscripts : SubscriptsFit moves
  pub excluded : AllAreExcluded (length i.params) further applies moves
  pub others : OthersKeepOrder i applies moves

-- each conflicting pair of items keeps its order
abbrev pub ExcludedSystemsKeepOrder : Type 0
ExcludedSystemsKeepOrder =
    (i : Input) (moves : List Move) (applies : Move → Bool) (further : Move → Move → List Row) (nests new : List Nest) → IsTested i moves applies further nests new
    → (xs ys : List (Item Step)) → IsKernelList act i nests xs → IsKernelList act i new ys → KeepsOrder (Goes act i moves) AreInConflict Precedes Precedes xs ys

-- and the new kernel's list has the effect of the old one's
abbrev pub TestedCommandKeepsEffect : Type 0
TestedCommandKeepsEffect =
    (i : Input) (moves : List Move) (applies : Move → Bool) (further : Move → Move → List Row) (nests new : List Nest) → IsTested i moves applies further nests new
    → (xs ys : List (Item Step)) → IsKernelList act i nests xs → IsKernelList act i new ys → (s : Cells) → effect_of ys s ≡ effect_of xs s
