use Rattle.std.proofs.Common.{length, take}
use Rattle.std.specs.Prelude.{IsTrue}
use Rattle.std.specs.List.{list_all}
use Rattle.source_check.specs.Sights.{are_extents, have_shapes}
use Rattle.source_check.proofs.source.all_extents.Given as goal

abbrev pub invariant-loop-array : goal.invariant-loop-array
invariant-loop-array l = record {
  widths : IsTrue (list_all (are_extents (length l.program.params)) l.all);
  shapes : IsTrue (have_shapes (take l.array-index l.program.arrays) l.all);
}
