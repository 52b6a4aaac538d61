use Rattle.std.proofs.Common.{length}
use Rattle.std.specs.Prelude.{IsTrue}
use Rattle.std.specs.List.{list_all}
use Rattle.source_limits.specs.Widths.{is_read_over}
use Rattle.source_limits.proofs.judge.reads_of.Given as goal

abbrev pub invariant-loop-e : goal.invariant-loop-e
invariant-loop-e l = IsTrue (list_all (is_read_over (length l.scene.names.now)) l.reads.items)
