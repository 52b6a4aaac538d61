use Rattle.std.proofs.Common.{◌≡◌, ◌+◌, drop, length}
use Rattle.source_limits.specs.Sites.{count_loops}
use Rattle.source_limits.proofs.judge.names_of.Given as goal

abbrev pub invariant-loop-one : goal.invariant-loop-one
invariant-loop-one l = length l.names + count_loops (drop l.one-index l.around) ≡ length l.params + count_loops l.around
