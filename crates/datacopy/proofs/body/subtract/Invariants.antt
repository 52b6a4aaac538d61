use Rattle.std.proofs.Common.{◌≡◌, length}
use Rattle.datacopy.proofs.body.subtract.Given as goal

abbrev pub invariant-loop-var : goal.invariant-loop-var
invariant-loop-var l = length l.coefs ≡ l.var
