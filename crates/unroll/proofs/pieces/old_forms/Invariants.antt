use Rattle.std.proofs.Common.{◌≡◌, map}
use Rattle.std.specs.List.{range_with_len}
use Rattle.unroll.specs.Unrolled.{old_form}
use Rattle.unroll.proofs.pieces.old_forms.Given as goal

abbrev pub invariant-loop-place : goal.invariant-loop-place
invariant-loop-place l = l.forms ≡ map (old_form l.vars l.params l.level l.value l.moved) (range_with_len 0 l.place)
