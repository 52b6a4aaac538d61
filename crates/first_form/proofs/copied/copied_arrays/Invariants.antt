use Rattle.std.proofs.Common.{◌≡◌, ◌++◌, length}
use Rattle.std.specs.List.{list_all}
use Rattle.first_form.specs.Written.{is_plain}
use Rattle.first_form.proofs.copied.copied_arrays.Given as goal

abbrev pub invariant-arrays : goal.invariant-arrays
invariant-arrays l = record {
  same : l.copies ++ l.arrays ≡ l.initial.arrays;
  plain : list_all (is_plain l.params) l.arrays ≡ list_all (is_plain l.params) l.initial.arrays;
}

abbrev pub decreases-arrays : goal.decreases-arrays
decreases-arrays l = length l.arrays
