use Rattle.std.proofs.Common.{◌≡◌, ◌≤◌, ◌+◌}
use Rattle.c_tree.specs.declared.index.Index.{size-Index}
use Rattle.c_judge.specs.Limits.{capped, size_of}
use Rattle.c_judge.proofs.size.+size.Given as goal

abbrev pub invariant-loop-rest : goal.invariant-loop-rest
invariant-loop-rest l = record {
  size : size-Index l.rest ≤ size-Index l.e;
  gathers : capped (size_of l.rest + l.total) ≡ capped (size_of l.e);
}
