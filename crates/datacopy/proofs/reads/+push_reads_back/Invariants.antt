use Rattle.std.proofs.Common.{◌≡◌, ◌≤◌, ◌++◌}
use Rattle.std.specs.Prelude.{reverse}
use Rattle.nest_tree.specs.declared.body.Body.{size-Body}
use Rattle.datacopy.specs.Reads.{reads_of}
use Rattle.datacopy.proofs.reads.+push_reads_back.Given as goal

abbrev pub invariant-loop-rest : goal.invariant-loop-rest
invariant-loop-rest l = record {
  size : size-Body l.rest ≤ size-Body l.body;
  gathers : l.reads.items ++ reverse (reads_of l.array l.rest) ≡ l.initial.reads.items ++ reverse (reads_of l.array l.body);
}
