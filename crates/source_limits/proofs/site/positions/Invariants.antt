use Rattle.std.proofs.Common.{◌≡◌, ◌+◌, drop, length}
use Rattle.source_limits.specs.Sites.{count_loops}
use Rattle.source_limits.proofs.site.positions.Given as goal

abbrev pub invariant-loop-one : goal.invariant-loop-one
invariant-loop-one l = length l.places + count_loops (drop l.one-index l.around) ≡ count_loops l.around
