use Rattle.std.proofs.Common.{◌≡◌, length}
use Rattle.source_check.proofs.inside.nothing_named.Given as goal

abbrev pub invariant-loop : goal.invariant-loop
invariant-loop l = length l.named ≡ l.counter
