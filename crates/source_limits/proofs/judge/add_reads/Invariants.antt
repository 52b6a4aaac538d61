use Rattle.std.proofs.Common.{length}
use Rattle.std.specs.Prelude.{IsTrue}
use Rattle.std.specs.List.{list_all}
use Rattle.source_limits.specs.Widths.{is_read_over}
use Rattle.source_limits.proofs.judge.add_reads.Given as goal

abbrev pub invariant-loop-mention : goal.invariant-loop-mention
invariant-loop-mention l = IsTrue (list_all (is_read_over (length l.scene.names.now)) l.reads.items)
