use Rattle.std.proofs.Common.{◌≡◌, take}
use Rattle.c_tokens.specs.Pieces as spec
use Rattle.c_tokens.proofs.pieces.value.Given as goal

abbrev pub invariant-loop-b : goal.invariant-loop-b
invariant-loop-b l = l.n ≡ spec.value (take l.b-index l.digits)
