use Rattle.std.proofs.Common.{◌≡◌, map}
use Rattle.std.specs.List.{range_with_len}
use Rattle.affine_moves.specs.Change.{old_form}
use Rattle.affine_moves.proofs.form.old_forms.Given as goal

abbrev pub invariant-loop-level : goal.invariant-loop-level
invariant-loop-level l = l.forms ≡ map (old_form l.vars l.params l.change) (range_with_len 0 l.level)
