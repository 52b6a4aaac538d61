-- The moves of a command's pieces, and what its test says of them: from the code's own facts to the law of the test.
use Rattle.std.specs.Prelude.{◌≡◌, ℕ, ◌+◌, Bool, false, cond, bytes_eq, List, [], ◌∷◌, map, length, ℤ, None, Ok}
use Rattle.c_meaning.specs.Ground.{Step}
use Rattle.c_meaning.specs.Memory.{Cells}
use Rattle.nest_tree.specs.declared.kernel.Kernel.{Kernel}
use Rattle.nest_tree.specs.declared.kernel.Nest.{Nest}
use Rattle.nest_tree.specs.declared.moves.Moves.{Moves}
use Rattle.nest_tree.specs.declared.moves.Piece.{Piece}
use Rattle.nest_tree.specs.Kernels.{IsPointOf, IsKernelList}
use Rattle.nest_tree.specs.Lists.{IsIn}
use Rattle.nest_tree.specs.Moving.{Move, ArePieces}
use Rattle.nest_tree.specs.Places.{Item}
use Rattle.nest_tree.specs.Systems.{SubscriptsFit}
use Rattle.nest_tree.specs.Terms.{Input}
use Rattle.nest_core.specs.Shapes.{IsShaped, Fits}
use Rattle.nest_laws.specs.Acts.{act}
use Rattle.nest_laws.specs.KernelLaws.{HaveSomeRanks}
use Rattle.nest_laws.specs.ListLaws.{effect_of}
use Rattle.kernel_laws.specs.Laws.{IsPlain}
use Rattle.move_laws.specs.Moves.{moves_of_all}
use Rattle.move_laws.specs.Unchanged.{NoneChanges}
use Rattle.point_laws.specs.Own.{AreFound}
use Rattle.point_laws.specs.Ranges.{IsRanged, HasNoCounts}
use Rattle.point_laws.specs.Values.{AreSmall}
use Rattle.depend_test.specs.Sides.{IsSideOf, AreMoved}
use Rattle.depend_test.specs.Tested.{Finds}
use Rattle.depend_test.specs.declared.side.Moved.{Moved}
use Rattle.depend_test.specs.declared.side.Side.{Side}
use Rattle.pair_laws.specs.Changes.{IsTestedMove, OthersStay}

-- the flag of the statement that stands at these positions
abbrev pub flag_at : List Nest → List Bool → List ℕ → Bool
flag_at [] bs ps = false
flag_at (n ∷ ns) [] ps = false
flag_at (n ∷ ns) (b ∷ bs) ps = cond (bytes_eq n.positions ps) b (flag_at ns bs ps)

-- whether the command applies to the statement of a move
abbrev pub applies_to : Kernel → Moves → Move → Bool
applies_to k m x = flag_at k.nests m.applies (x.old).positions

-- all pieces are plain: they drop no row and add no term
abbrev pub ArePlain : ℕ → List (List Piece) → Type 0
ArePlain params pss = (ps : List Piece) (p : Piece) → IsIn ps pss → IsIn p ps → IsPlain params p

-- what plain pieces that fit make of a shaped kernel's statements
pub record ArePlainMoves (k : Kernel) (m : Moves) (moves : List Move) : Type 0 where
  pub shaped : IsShaped k
  pub fits : Fits k m
  pub plain : ArePlain (length k.head.params) m.pieces
  pub made : moves_of_all (length k.head.params) k.nests m.pieces ≡ Ok moves

-- in no statement a term holds itself, and at each of its points all its terms find their cells
pub record FindsCells (k : Kernel) (i : Input) : Type 0 where
  pub ranks : (n : Nest) → IsIn n k.nests → HaveSomeRanks (length k.head.params + length n.levels) n.terms
  pub found : (n : Nest) (vs : List ℤ) → IsIn n k.nests → IsPointOf i n vs → AreFound i n.terms vs

-- the numbers of the value ranges of each new statement are within the limit of set work
abbrev pub HaveSmallRanges : Kernel → List Move → Type 0
HaveSmallRanges k moves =
    (x : Move) (s : Side) → IsIn x moves → IsSideOf k.head k.made x.new (x.piece).old s
    → AreSmall (length k.head.params + length (x.new).levels + length s.instance.terms) s.instance.ranges

-- each move is one of which the test has what the law of the test asks
abbrev pub MovesAreTested : Type 0
MovesAreTested =
    (k : Kernel) (m : Moves) (i : Input) (all : List Moved) (moves : List Move) → ArePlainMoves k m moves → length i.params ≡ length k.head.params → FindsCells k i → HaveSmallRanges k moves
    → AreMoved k m all → (x : Move) → IsIn x moves → IsTestedMove k i (applies_to k m) all x

-- before any command has made an array all ranges are so
abbrev pub NothingMadeHasSmallRanges : Type 0
NothingMadeHasSmallRanges = (k : Kernel) (moves : List Move) → k.made ≡ [] → HaveSmallRanges k moves

-- a command whose test finds no dependence, on an input whose arrays keep their ranges
pub record IsFoundFree (k : Kernel) (m : Moves) (i : Input) (moves : List Move) : Type 0 where
  pub plain_moves : ArePlainMoves k m moves
  pub ranged : IsRanged k.head k.made i
  pub counts : HasNoCounts k.head k.made
  pub cells : FindsCells k i
  pub ranges : HaveSmallRanges k moves
  pub none : Finds k m None
  pub others : OthersStay i (applies_to k m) moves

-- then no two conflicting instances change their order
abbrev pub TestFindsNoneChanges : Type 0
TestFindsNoneChanges = (k : Kernel) (m : Moves) (i : Input) (moves : List Move) → IsFoundFree k m i moves → NoneChanges i moves

-- and the new statements, at the positions that the pieces name, have the effect of the old ones
abbrev pub TestFindsNoneKeepsEffect : Type 0
TestFindsNoneKeepsEffect =
    (k : Kernel) (m : Moves) (i : Input) (moves : List Move) → IsFoundFree k m i moves → ArePieces i moves k.nests → SubscriptsFit moves
    → (xs ys : List (Item Step)) → IsKernelList act i k.nests xs → IsKernelList act i (map (λ x. x.new) moves) ys → (s : Cells) → effect_of ys s ≡ effect_of xs s
