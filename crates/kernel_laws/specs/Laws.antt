-- What the statements that pieces make in code have to do with the old ones.
use Rattle.std.specs.Prelude.{◌≡◌, ℕ, ◌+◌, Bool, [], length, Ok}
use Rattle.int_rows.specs.declared.row.Aff.{Aff}
use Rattle.c_tree.specs.declared.program.Program.{Program}
use Rattle.nest_tree.specs.declared.kernel.Nest.{Nest}
use Rattle.nest_tree.specs.declared.moves.Piece.{Piece}
use Rattle.nest_tree.specs.Lists.{IsIn}
use Rattle.nest_tree.specs.Rewriting.{NamesNoTerm, IsRewritten}
use Rattle.nest_core.specs.Pieces.{nest_of_piece}
use Rattle.nest_core.specs.Shapes.{IsShapedNest, FitsNest}

-- a piece that drops no row and adds no term, whose old levels are forms of parameters and new levels
pub record IsPlain (params : ℕ) (p : Piece) : Type 0 where
  pub drops : p.drops ≡ []
  pub terms : p.terms ≡ []
  pub no_terms : (f : Aff) → IsIn f p.old → NamesNoTerm (params + length p.levels) f

-- the statement that it makes of a shaped one that it fits is the old one in the new variables
abbrev pub PieceRewritesStatement : Type 0
PieceRewritesStatement =
    (head : Program) (n : Nest) (p : Piece) (alone : Bool) (new : Nest) → IsShapedNest head n → FitsNest (length head.params) n p → IsPlain (length head.params) p
    → nest_of_piece (length head.params) alone n p ≡ Ok new → IsRewritten (length head.params) (record { old = n; piece = p; new = new })
