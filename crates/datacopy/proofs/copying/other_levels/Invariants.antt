use Rattle.std.proofs.Common.{◌≡◌, length}
use Rattle.datacopy.proofs.copying.other_levels.Given as goal

abbrev pub invariant-loop : goal.invariant-loop
invariant-loop l = length l.levels ≡ l.counter
