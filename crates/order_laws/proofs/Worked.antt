-- The worked loop is split, by the code's own definitions.
use Rattle.std.proofs.Common.{◌≡◌, ℕ, true, false, List, [], ◌∷◌, refl, ap, arith, pos}
use Rattle.std.specs.Prelude.{Result, Ok}
use Rattle.int_rows.specs.declared.row.Excess.{Excess}
use Rattle.nest_tree.specs.declared.body.Body.{Body}
use Rattle.nest_tree.specs.declared.body.Body.TheVariants.{Const}
use Rattle.nest_tree.specs.declared.form.Form.TheVariants.{Other}
use Rattle.nest_tree.specs.declared.kernel.Nest.{Nest}
use Rattle.nest_tree.specs.declared.moves.Moves.{Moves}
use Rattle.nest_tree.specs.declared.moves.Piece.{Piece}
use Rattle.nest_tree.specs.Moving.{Move}
use Rattle.nest_core.specs.Forms.{level_coefs, lifted, judged_sum, number_made, rewritten}
use Rattle.nest_core.specs.Making.{after}
use Rattle.nest_core.specs.Order.{next_positions, numbered}
use Rattle.nest_core.specs.Pieces.{own_made, frame_of, nest_of_piece}
use Rattle.nest_core.specs.Shapes.{IsShapedNest, IsShaped}
use Rattle.nest_core.proofs.Bodies.{made-Const, over_is-Const}
use Rattle.affine_moves.specs.Change.{place_of, padded, unit, old_form, new_rows, new_levels, new_positions, piece_of}
use Rattle.fuse_distribute.specs.Distributing.{distribute_moves, one_further}
use Rattle.kernel_laws.specs.Examples.{head, form}
use Rattle.move_laws.specs.Moves.{moves_of_all}
use Rattle.order_laws.specs.Others.{by_distribute}
use Rattle.order_laws.specs.Examples.{ones_at, kernel, SplitLoop}
use Rattle.order_laws.proofs.Commands.{commands_leave}

-- the level is the new level
piece_to : List ℕ → Piece
piece_to ps = record { drops = []; terms = []; rows = []; old = form (pos 0) (pos 1) (pos 0) ∷ []; levels = Other ∷ []; positions = ps }

moves : Moves
moves = record { pieces = (piece_to (0 ∷ 0 ∷ []) ∷ []) ∷ (piece_to (1 ∷ 1 ∷ []) ∷ []) ∷ (piece_to (2 ∷ 0 ∷ []) ∷ []) ∷ []; applies = true ∷ true ∷ false ∷ [] }

split : distribute_moves kernel 1 1 ≡ Ok moves
unfolding moves piece_to place_of padded unit old_form new_rows new_levels new_positions piece_of one_further
split = refl

with_value : List ℕ → Result Body Excess → Result Nest Excess
with_value ps b = after b (λ v. Ok (record (ones_at ps) { value = v }))

made : (ps qs : List ℕ) → nest_of_piece 1 true (ones_at ps) (piece_to qs) ≡ Ok (ones_at qs)
unfolding with_value piece_to nest_of_piece own_made rewritten level_coefs lifted judged_sum number_made
made ps qs = ap (with_value qs) (made-Const (rewritten (frame_of 1 (ones_at ps) (piece_to qs)) (piece_to qs).old) (Const 1) 1 refl)

move : List ℕ → List ℕ → Move
move ps qs = record { old = ones_at ps; piece = piece_to qs; new = ones_at qs }

all : List Move
all = move (0 ∷ 0 ∷ []) (0 ∷ 0 ∷ []) ∷ move (0 ∷ 1 ∷ []) (1 ∷ 1 ∷ []) ∷ move (1 ∷ 0 ∷ []) (2 ∷ 0 ∷ []) ∷ []

moves_made : moves_of_all 1 kernel.nests moves.pieces ≡ Ok all
unfolding all move moves
moves_made = rw (made (0 ∷ 0 ∷ []) (0 ∷ 0 ∷ []), made (0 ∷ 1 ∷ []) (1 ∷ 1 ∷ []), made (1 ∷ 0 ∷ []) (2 ∷ 0 ∷ [])) refl

shaped_nest : (p q : ℕ) → IsShapedNest head (ones_at (p ∷ q ∷ []))
shaped_nest p q = record { positions = refl; depth = omega arith; rows = refl; terms = refl; target = refl; value = over_is-Const 2 1; whole = refl }

shaped : IsShaped kernel
unfolding numbered next_positions
shaped = record { nests = (shaped_nest 0 0, (shaped_nest 0 1, (shaped_nest 1 0, tt))); some = omega arith; few = omega arith; counted = refl }

pub split_loop : SplitLoop
unfolding moves all move piece_to
split_loop = (moves, all, split, shaped, moves_made, refl, refl, commands_leave kernel moves all shaped (by_distribute 1 1 split) moves_made)
