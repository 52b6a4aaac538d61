use Rattle.std.proofs.Common.{◌≡◌, map}
use Rattle.std.specs.List.{range_with_len}
use Rattle.compact.specs.Statement as spec
use Rattle.compact.proofs.variables.image_forms.Given as goal

abbrev pub invariant-loop-i : goal.invariant-loop-i
invariant-loop-i l = l.forms ≡ map (spec.image_at l.counts) (range_with_len 0 l.i)
