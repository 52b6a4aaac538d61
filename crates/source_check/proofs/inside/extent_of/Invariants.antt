use Rattle.std.proofs.Common.{ℕ, ◌<◌, length}
use Rattle.std.specs.Prelude.{IsTrue}
use Rattle.std.specs.List.{list_all}
use Rattle.c_judge.specs.Signature.{extents_of}
use Rattle.source_check.specs.Sights.{are_extents, have_shapes}
use Rattle.source_check.proofs.inside.extent_of.Given as goal

abbrev pub invariant-arrays : goal.invariant-arrays
invariant-arrays l = record {
  shapes : IsTrue (have_shapes l.arrays l.extents);
  place : l.place < length (extents_of l.arrays l.name);
  widths : (n : ℕ) → IsTrue (list_all (are_extents n) l.initial.extents) → IsTrue (list_all (are_extents n) l.extents);
}

abbrev pub decreases-arrays : goal.decreases-arrays
decreases-arrays l = length l.arrays
