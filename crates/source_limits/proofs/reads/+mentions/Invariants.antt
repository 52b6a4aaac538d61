use Rattle.std.proofs.Common.{◌≤◌}
use Rattle.std.specs.Prelude.{IsTrue}
use Rattle.std.specs.List.{list_all}
use Rattle.c_tree.specs.declared.index.Index.{size-Index}
use Rattle.source_limits.specs.Matrices.{is_of_matrix}
use Rattle.source_limits.proofs.reads.+mentions.Given as goal

abbrev pub invariant-push_mentions-loop-rest : goal.invariant-push_mentions-loop-rest
invariant-push_mentions-loop-rest l = record {
  size : size-Index l.rest ≤ size-Index l.e;
  arrays : IsTrue (list_all (is_of_matrix l.matrices) l.all.items);
}
