-- What pieces make of a kernel: each piece of each statement with the statement that it makes, at the positions that this
-- statement gets when the children of each loop are counted anew.
use Rattle.std.specs.Prelude.{cond, List, [], ◌∷◌, map, length, Result, Ok}
use Rattle.int_rows.specs.declared.row.Excess.{Excess}
use Rattle.nest_tree.specs.declared.kernel.Kernel.{Kernel}
use Rattle.nest_tree.specs.declared.kernel.Nest.{Nest}
use Rattle.nest_tree.specs.declared.moves.Moves.{Moves}
use Rattle.nest_tree.specs.Moving.{Move}
use Rattle.nest_core.specs.Making.{after}
use Rattle.nest_core.specs.Order.{is_earlier, numbered}
use Rattle.move_laws.specs.Moves.{moves_of_all}

-- a move before the first whose new statement doesn't stand earlier in the text
abbrev pub put_in : Move → List Move → List Move
put_in m [] = m ∷ []
put_in m (x ∷ xs) = cond (is_earlier (x.new).positions (m.new).positions) (x ∷ put_in m xs) (m ∷ x ∷ xs)

-- in the order of the text
abbrev pub in_order : List Move → List Move
in_order [] = []
in_order (m ∷ ms) = put_in m (in_order ms)

abbrev pub new_nests : List Move → List Nest
new_nests ms = map (λ m. m.new) ms

-- the same move, to a statement at other positions
abbrev pub to_nest : Move → Nest → Move
to_nest m n = record {
  old = m.old;
  piece = record { drops = (m.piece).drops; terms = (m.piece).terms; rows = (m.piece).rows; old = (m.piece).old; levels = (m.piece).levels; positions = n.positions };
  new = n;
}

abbrev pub to_nests : List Move → List Nest → List Move
to_nests [] _ = []
to_nests (m ∷ ms) [] = []
to_nests (m ∷ ms) (n ∷ ns) = to_nest m n ∷ to_nests ms ns

-- with the positions counted anew
abbrev pub counted : List Move → List Move
counted ms = to_nests ms (numbered (new_nests ms))

-- all moves that the pieces make of a kernel's statements, or the first number that is too large
abbrev pub moves_made : Kernel → Moves → Result (List Move) Excess
moves_made k m = after (moves_of_all (length k.head.params) k.nests m.pieces) (λ ms. Ok (counted (in_order ms)))
