use Rattle.std.proofs.Common.{◌≡◌, length}
use Rattle.source_check.proofs.whole.size_form.Given as goal

abbrev pub invariant-loop-i : goal.invariant-loop-i
invariant-loop-i l = length l.coefs ≡ l.vars
