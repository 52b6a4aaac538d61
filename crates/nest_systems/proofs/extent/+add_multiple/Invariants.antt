use Rattle.std.proofs.Common.{◌≡◌, ◌≤◌, length}
use Rattle.c_tree.specs.declared.index.Index.{size-Index}
use Rattle.nest_systems.specs.Extents.{with_multiple}
use Rattle.nest_systems.proofs.extent.+add_multiple.Given as goal

abbrev pub invariant-loop-rest : goal.invariant-loop-rest
invariant-loop-rest l = record {
  size : size-Index l.rest ≤ size-Index l.e;
  width : length l.sum.coefs ≡ length l.params;
  value : with_multiple l.params l.rest l.factor l.sum ≡ with_multiple l.params l.e l.times l.initial.sum;
}
