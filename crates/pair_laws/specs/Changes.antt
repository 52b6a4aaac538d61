-- The test of a command: where no candidate is open, no two conflicting instances change their order.
use Rattle.std.specs.Prelude.{◌≡◌, ℕ, Bool, false, List, length, ℤ, None}
use Rattle.nest_tree.specs.declared.kernel.Kernel.{Kernel}
use Rattle.nest_tree.specs.declared.moves.Piece.{Piece}
use Rattle.nest_tree.specs.Carriers.{Carrier, IsCarried}
use Rattle.nest_tree.specs.Lists.{IsIn, IsAt}
use Rattle.c_meaning.specs.Ground.{Step}
use Rattle.c_meaning.specs.Memory.{Cells}
use Rattle.nest_laws.specs.Acts.{act}
use Rattle.nest_laws.specs.ListLaws.{effect_of}
use Rattle.nest_tree.specs.declared.kernel.Nest.{Nest}
use Rattle.nest_tree.specs.Places.{Item}
use Rattle.nest_tree.specs.Systems.{SubscriptsFit}
use Rattle.nest_tree.specs.Kernels.{IsPointOf, IsKernelList, AreDistinct}
use Rattle.nest_tree.specs.Moving.{Move, Gives, StandsFor, IsMade, ArePieces}
use Rattle.nest_tree.specs.Rewriting.{IsRewritten}
use Rattle.nest_tree.specs.Terms.{Input}
use Rattle.move_laws.specs.Unchanged.{NoneChanges}
use Rattle.point_laws.specs.Ranges.{IsRanged, HasNoCounts}
use Rattle.depend_test.specs.Candidates.{candidates, IsFirstDependence}
use Rattle.depend_test.specs.Sides.{IsMovedBy}
use Rattle.depend_test.specs.declared.side.Moved.{Moved}
use Rattle.depend_test.specs.declared.side.Side.{Side}
use Rattle.pair_laws.specs.Pairs.{IsSideAt}

-- what the test has of a move: what it has of its old statement, and the side of its piece
pub record IsTestedMove (k : Kernel) (i : Input) (applies : Move → Bool) (all : List Moved) (x : Move) : Type 0 where
  pub number : ℕ
  pub moved : Moved
  pub at : IsAt number moved all
  pub pieces : List Piece
  pub by : IsMovedBy k.head k.made (applies x) x.old pieces moved
  pub side : Side
  pub among : IsIn side moved.sides
  pub rewritten : IsRewritten (length i.params) x
  pub points : (ws : List ℤ) → IsPointOf i x.new ws → IsSideAt k i x.new (x.piece).old side ws

-- two instances to which the command doesn't apply don't change their order
abbrev pub OthersStay : Input → (Move → Bool) → List Move → Type 0
OthersStay i applies moves =
    (m k : Move) (vs ws us zs : List ℤ) (c d : Carrier) → IsIn m moves → IsIn k moves → applies m ≡ false → applies k ≡ false → Gives i m vs ws → Gives i k us zs
    → IsCarried c (m.old).positions vs (k.old).positions us → IsCarried d (k.piece).positions zs (m.piece).positions ws → ⊥

-- where the test finds no dependence, no two conflicting instances change their order
abbrev pub NoneOpenNoneChanges : Type 0
NoneOpenNoneChanges =
    (k : Kernel) (i : Input) (applies : Move → Bool) (all : List Moved) (moves : List Move) → IsRanged k.head k.made i → HasNoCounts k.head k.made → ((x : Move) → IsIn x moves → IsTestedMove k i applies all x)
    → IsFirstDependence k (candidates all) None → OthersStay i applies moves → NoneChanges i moves

-- and so the effect on all arrays stays
abbrev pub TestKeepsEffect : Type 0
TestKeepsEffect =
    (k : Kernel) (i : Input) (applies : Move → Bool) (all : List Moved) (moves : List Move) (new : List Nest) → IsRanged k.head k.made i → HasNoCounts k.head k.made → ((x : Move) → IsIn x moves → IsTestedMove k i applies all x)
    → IsFirstDependence k (candidates all) None → OthersStay i applies moves
    → IsMade moves k.nests new → ((x : Move) → IsIn x moves → StandsFor act i x) → ArePieces i moves k.nests → AreDistinct k.nests → SubscriptsFit moves
    → (xs ys : List (Item Step)) → IsKernelList act i k.nests xs → IsKernelList act i new ys → (s : Cells) → effect_of ys s ≡ effect_of xs s
