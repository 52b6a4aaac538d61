use Rattle.std.proofs.Common.{◌≡◌, length}
use Rattle.std.specs.Prelude.{IsTrue}
use Rattle.std.specs.List.{list_all}
use Rattle.datacopy.specs.Extents.{extents_of, is_extent_over}
use Rattle.datacopy.proofs.extents.extents_of.Given as goal

abbrev pub invariant-loop-dim : goal.invariant-loop-dim
invariant-loop-dim l = record {
  extents : l.extents.items ≡ extents_of l.head l.made l.array l.dim;
  width : IsTrue (list_all (is_extent_over (length l.head.params)) l.extents.items);
  count : length l.extents.items ≡ l.dim;
}
