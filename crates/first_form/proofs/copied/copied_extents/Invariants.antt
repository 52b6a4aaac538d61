use Rattle.std.proofs.Common.{◌≡◌, ◌++◌, length}
use Rattle.std.specs.List.{list_all}
use Rattle.first_form.specs.Sizes.{is_size}
use Rattle.first_form.proofs.copied.copied_extents.Given as goal

abbrev pub invariant-extents : goal.invariant-extents
invariant-extents l = record {
  same : l.copies ++ l.extents ≡ l.initial.extents;
  sizes : list_all (is_size l.params) l.extents ≡ list_all (is_size l.params) l.initial.extents;
}

abbrev pub decreases-extents : goal.decreases-extents
decreases-extents l = length l.extents
