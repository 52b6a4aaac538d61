use Rattle.std.proofs.Common.{◌≡◌, map}
use Rattle.std.specs.List.{range_with_len}
use Rattle.make_dense.specs.Forms.{coef_of_difference}
use Rattle.make_dense.proofs.forms.difference.Given as goal

abbrev pub invariant-loop-var : goal.invariant-loop-var
invariant-loop-var l = l.coefs ≡ map (coef_of_difference l.x l.y) (range_with_len 0 l.var)
