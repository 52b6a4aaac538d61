use Rattle.std.proofs.Common.{◌≡◌, drop}
use Rattle.make_dense.specs.Forms.{has_coefs}
use Rattle.make_dense.proofs.forms.has_coefs.Given as goal

abbrev pub invariant-loop-var : goal.invariant-loop-var
invariant-loop-var l = has_coefs l.x l.y l.var (drop l.var l.coefs) ≡ has_coefs l.x l.y 0 l.coefs
