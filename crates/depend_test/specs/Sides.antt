-- What the moves make of statements.
use Rattle.std.specs.Prelude.{◌≡◌, ℕ, ◌+◌, Bool, List, [], ◌∷◌, ◌++◌, map, length, Ok}
use Rattle.std.specs.List.{AllByRecursion, range_with_len}
use Rattle.c_tree.specs.declared.program.Program.{Program}
use Rattle.int_rows.specs.declared.row.Aff.{Aff}
use Rattle.nest_tree.specs.declared.kernel.Kernel.{Kernel}
use Rattle.nest_tree.specs.declared.kernel.Nest.{Nest}
use Rattle.nest_tree.specs.declared.made.Made.{Made}
use Rattle.nest_tree.specs.declared.moves.Moves.{Moves}
use Rattle.nest_tree.specs.declared.moves.Piece.{Piece}
use Rattle.nest_core.specs.Pieces.{pieces_made}
use Rattle.nest_systems.specs.Cells.{cells, subscripts}
use Rattle.nest_systems.specs.Instances.{IsInstance}
use Rattle.nest_systems.specs.Statements.{IsPart, plain_row}
use Rattle.nest_systems.specs.Spans.{unit_form}
use Rattle.depend_test.specs.declared.side.Side.{Side}
use Rattle.depend_test.specs.declared.side.Moved.{Moved}

pub record IsSide (params : ℕ) (s : Side) : Type 0 where
  pub instance : IsInstance params s.instance

pub record IsMoved (params : ℕ) (m : Moved) : Type 0 where
  pub sides : AllByRecursion (IsSide params) m.sides

-- what a statement gives to systems, with these forms of its old levels
pub record IsSideOf (head : Program) (made : List Made) (n : Nest) (levels : List Aff) (s : Side) : Type 0 where
  pub part : IsPart head made (length n.levels) n.terms 0 (map plain_row n.rows) (subscripts (cells n) ++ levels) s.instance
  pub accesses : s.accesses ≡ cells n
  pub positions : s.positions ≡ n.positions
  pub old : s.old ≡ levels

-- the levels of a statement as forms of its own
abbrev pub own_levels : Program → Nest → List Aff
own_levels head n = map (λ v. unit_form v (length head.params + length n.levels + length n.terms)) (range_with_len (length head.params) (length n.levels))

-- the side of a statement that stays as it is
pub record IsSame (head : Program) (made : List Made) (n : Nest) (s : Side) : Type 0 where
  pub shape : IsSide (length head.params) s
  pub side : IsSideOf head made n (own_levels head n) s

-- the sides of the statements that pieces have made, one by one
pub data AreSides (head : Program) (made : List Made) : List Nest → List Piece → List Side → Type 0 where
  none : AreSides head made [] [] []
  more : (n : Nest) (ns : List Nest) (p : Piece) (ps : List Piece) (s : Side) (ss : List Side) → IsSideOf head made n p.old s → AreSides head made ns ps ss → AreSides head made (n ∷ ns) (p ∷ ps) (s ∷ ss)

-- a statement, whether the command applies to it, and the sides of its pieces
pub record IsMovedBy (head : Program) (made : List Made) (applies : Bool) (n : Nest) (pieces : List Piece) (m : Moved) : Type 0 where
  pub own_applies : m.applies ≡ applies
  pub how : m.how ≡ n.how
  pub accesses : m.accesses ≡ cells n
  pub positions : m.positions ≡ n.positions
  pub nests : List Nest
  pub makes : pieces_made (length head.params) n pieces ≡ Ok nests
  pub own_sides : AreSides head made nests pieces m.sides

pub data AreAllMoved (head : Program) (made : List Made) : List Bool → List Nest → List (List Piece) → List Moved → Type 0 where
  none : AreAllMoved head made [] [] [] []
  more : (b : Bool) (bs : List Bool) (n : Nest) (ns : List Nest) (ps : List Piece) (pss : List (List Piece)) (m : Moved) (ms : List Moved) → IsMovedBy head made b n ps m → AreAllMoved head made bs ns pss ms
      → AreAllMoved head made (b ∷ bs) (n ∷ ns) (ps ∷ pss) (m ∷ ms)

-- the statements of a kernel and what the moves make of them
abbrev pub AreMoved : Kernel → Moves → List Moved → Type 0
AreMoved k m all = AreAllMoved k.head k.made m.applies k.nests m.pieces all
