use Rattle.std.proofs.Common.{◌≡◌}
use Rattle.sets_bench.proofs.dense_system.Given as goal

abbrev pub invariant-loop-row : goal.invariant-loop-row
invariant-loop-row l = l.system.vars ≡ 12
