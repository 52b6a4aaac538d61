use Rattle.std.proofs.Common.{◌≡◌, ◌+◌, drop, length}
use Rattle.source_limits.specs.Sites.{count_loops}
use Rattle.source_check.proofs.inside.judge_accesses.Given as goal

abbrev pub invariant-loop-around : goal.invariant-loop-around
invariant-loop-around l = record {
  named : length l.known.named ≡ length l.sight.reads.now;
  levels : l.levels + count_loops (drop l.around-index l.site.around.items) ≡ count_loops l.site.around.items;
}
