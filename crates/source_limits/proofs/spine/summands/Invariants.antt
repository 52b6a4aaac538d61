use Rattle.std.proofs.Common.{◌≤◌}
use Rattle.std.specs.Prelude.{IsTrue}
use Rattle.std.specs.List.{list_all}
use Rattle.c_tree.specs.declared.index.Index.{size-Index}
use Rattle.source_limits.specs.Parts.{is_smaller}
use Rattle.source_limits.proofs.spine.summands.Given as goal

abbrev pub invariant-loop-first : goal.invariant-loop-first
invariant-loop-first l = record {
  size : size-Index l.first ≤ size-Index l.e;
  behind : IsTrue (list_all (is_smaller (size-Index l.e)) l.behind.items);
}
