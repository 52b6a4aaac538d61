use Rattle.std.proofs.Common.{◌≡◌, length}
use Rattle.c_judge.specs.Signature.{with_params}
use Rattle.c_judge.proofs.signature.enter_params.Given as goal

abbrev pub invariant-params : goal.invariant-params
invariant-params l = with_params l.scope l.params ≡ with_params l.initial.scope l.initial.params

abbrev pub decreases-params : goal.decreases-params
decreases-params l = length l.params
