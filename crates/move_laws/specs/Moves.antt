-- The moves that pieces make of a kernel's statements, at the positions that the pieces name.
use Rattle.std.specs.Prelude.{ℕ, Bool, List, [], ◌∷◌, Result, Ok}
use Rattle.int_rows.specs.declared.row.Excess.{Excess}
use Rattle.nest_tree.specs.declared.kernel.Nest.{Nest}
use Rattle.nest_tree.specs.declared.moves.Piece.{Piece}
use Rattle.nest_tree.specs.Moving.{Move}
use Rattle.nest_core.specs.Making.{after, each_made, both_lists}
use Rattle.nest_core.specs.Pieces.{nest_of_piece, is_one}

-- a statement, one of its pieces, and the statement that the piece makes
abbrev pub move_of : ℕ → Bool → Nest → Piece → Result Move Excess
move_of params alone n p = after (nest_of_piece params alone n p) (λ new. Ok (record { old = n; piece = p; new = new }))

abbrev pub moves_of_one : ℕ → Nest → List Piece → Result (List Move) Excess
moves_of_one params n ps = each_made (move_of params (is_one ps) n) ps

-- those of all statements, statement by statement
abbrev pub moves_of_all : ℕ → List Nest → List (List Piece) → Result (List Move) Excess
moves_of_all params [] _ = Ok []
moves_of_all params (n ∷ ns) [] = Ok []
moves_of_all params (n ∷ ns) (ps ∷ pss) = both_lists (moves_of_one params n ps) (moves_of_all params ns pss)
