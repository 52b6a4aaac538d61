use Rattle.std.proofs.Common.{◌≡◌, length}
use Rattle.std.specs.Prelude.{IsTrue}
use Rattle.source_check.specs.Sights.{are_extents}
use Rattle.source_check.proofs.source.extents_of.Given as goal

abbrev pub invariant-loop-extent : goal.invariant-loop-extent
invariant-loop-extent l = record {
  widths : IsTrue (are_extents (length l.program.params) l.forms);
  count : length l.forms ≡ l.extent-index;
}
