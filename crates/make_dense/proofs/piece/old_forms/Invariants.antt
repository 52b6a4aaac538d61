use Rattle.std.proofs.Common.{◌≡◌, map}
use Rattle.std.specs.List.{range_with_len}
use Rattle.make_dense.specs.Piece.{old_form}
use Rattle.make_dense.proofs.piece.old_forms.Given as goal

abbrev pub invariant-loop-place : goal.invariant-loop-place
invariant-loop-place l = l.forms ≡ map (old_form l.places) (range_with_len 0 l.place)
