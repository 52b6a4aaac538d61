use Rattle.std.proofs.Common.{◌≡◌, length}
use Rattle.source_limits.proofs.affine.multiplied.Given as goal

abbrev pub invariant-loop-coef : goal.invariant-loop-coef
invariant-loop-coef l = length l.products ≡ l.coef-index
