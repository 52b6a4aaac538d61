-- How pieces move the instances of a kernel's statements, and the moved list.
use Rattle.std.specs.Prelude.{◌≡◌, List, map, ℤ}
use Rattle.nest_tree.specs.declared.kernel.Nest.{Nest}
use Rattle.nest_tree.specs.declared.kernel.KernelRow.{KernelRow}
use Rattle.nest_tree.specs.declared.moves.Piece.{Piece}
use Rattle.nest_tree.specs.Lists.{IsIn, IsListOf}
use Rattle.nest_tree.specs.Places.{place, IsInstance, Item, Precedes}
use Rattle.nest_tree.specs.Forms.{value}
use Rattle.nest_tree.specs.Terms.{Input}
use Rattle.nest_tree.specs.Kernels.{point, IsMet, IsPointOf, Acting, item_at}

-- a statement, one of its pieces, and the statement that the piece makes of it
pub record Move : Type 0 where
  pub old : Nest
  pub piece : Piece
  pub new : Nest

-- new level values that the piece gives to old ones: they meet its rows, and its forms have the old values at them
pub record Gives (i : Input) (m : Move) (vs ws : List ℤ) : Type 0 where
  pub instance : IsInstance (m.piece).positions ws
  pub meets : (r : KernelRow) → IsIn r (m.piece).rows → IsMet i m.new ws r
  pub old : map (value (point i m.new ws)) (m.piece).old ≡ vs

-- an item goes to the place of a new point of a piece whose forms give its old level values
pub record Goes {T : Type 0} (act : Acting T) (i : Input) (moves : List Move) (x y : Item T) : Type 0 where
  pub move : Move
  pub is_in : IsIn move moves
  pub old : List ℤ
  pub new : List ℤ
  pub is_point : IsPointOf i move.old old
  pub gives : Gives i move old new
  pub from : x ≡ item_at act i move.old old
  pub to : y ≡ record { place = place (move.piece).positions new; step = x.step }

-- the moved list: sorted by place, and its members are those to which an item of the old list goes
abbrev pub IsMovedList : {T : Type 0} → Acting T → Input → List Move → List (Item T) → List (Item T) → Type 0
IsMovedList {T} act i moves xs ys = IsListOf Precedes (λ y. (x : Item T) × IsIn x xs × Goes act i moves x y) ys

-- the new statement is the old one at the level values that the piece's forms give
pub record StandsFor {T : Type 0} (act : Acting T) (i : Input) (m : Move) : Type 0 where
  pub positions : (m.new).positions ≡ (m.piece).positions
  pub to_new : (vs ws : List ℤ) → IsPointOf i m.old vs → Gives i m vs ws → IsPointOf i m.new ws
  pub to_old : (ws : List ℤ) → IsPointOf i m.new ws → (vs : List ℤ) × IsPointOf i m.old vs × Gives i m vs ws
  pub same_step : (vs ws : List ℤ) → IsPointOf i m.old vs → Gives i m vs ws → act m.new (point i m.new ws) ≡ act m.old (point i m.old vs)

-- the moves are of statements of the kernel, and make the statements of the new one
pub record IsMade (moves : List Move) (nests new : List Nest) : Type 0 where
  pub of_kernel : (m : Move) → IsIn m moves → IsIn m.old nests
  pub of_moves : (n : Nest) → IsIn n new → (m : Move) × IsIn m moves × (n ≡ m.new)
  pub all : (m : Move) → IsIn m moves → IsIn m.new new

-- the pieces map the old instances to the new points one to one and onto
pub record ArePieces (i : Input) (moves : List Move) (nests : List Nest) : Type 0 where
  pub new_point : (n : Nest) (vs : List ℤ) → IsIn n nests → IsPointOf i n vs → (m : Move) × (ws : List ℤ) × IsIn m moves × (m.old ≡ n) × Gives i m vs ws
  pub one : (m k : Move) (vs ws us : List ℤ) → IsIn m moves → IsIn k moves → m.old ≡ k.old → IsPointOf i m.old vs → Gives i m vs ws → Gives i k vs us → (m ≡ k) × (ws ≡ us)
  pub apart : (m k : Move) → IsIn m moves → IsIn k moves → (m.piece).positions ≡ (k.piece).positions → m ≡ k

-- one piece takes each old instance to one new point; its forms give each new point one old instance
pub record IsOneToOne (i : Input) (m : Move) : Type 0 where
  pub some : (vs : List ℤ) → IsPointOf i m.old vs → (ws : List ℤ) × Gives i m vs ws
  pub one : (vs ws us : List ℤ) → IsPointOf i m.old vs → Gives i m vs ws → Gives i m vs us → ws ≡ us
