use Rattle.std.proofs.Common.{refl, pos, [], ◌∷◌}
use Rattle.inspector_laws.proofs.Layering.{lays_blocks as law}
use Rattle.inspector_laws.proofs.Worked.{repeated_holds, repeated_values, worked_names, worked_lay_names}
use Rattle.inspector_laws.proofs.WorkedLayouts.{blocks_of_four, blocks_of_repeated}
use Rattle.inspector_laws.proofs.block_lines_leave_blocks.Goals as goal

pub returns : goal.returns
returns c = record {
  law = law;
  holds = repeated_holds;
  values = repeated_values;
  names_fit = worked_names;
  layout_fits = worked_lay_names;
  no_fault = blocks_of_repeated.ends;
  turns = blocks_of_repeated.turned;
  sum = blocks_of_repeated.meets.sums.sums 0 (pos 0) (pos 0 ∷ pos 1 ∷ []) refl;
  one = blocks_of_repeated.meets.sums.sums 0 (pos 0) (pos 0 ∷ pos 0 ∷ []) refl;
  empty = blocks_of_repeated.meets.sums.sums 0 (pos 0) (pos 1 ∷ pos 0 ∷ []) refl;
  extents = blocks_of_repeated.meets.lay_long;
  more_turns = blocks_of_four.turned;
  last = blocks_of_four.meets.sums.sums 1 (pos 1) (pos 0 ∷ pos 1 ∷ []) refl;
}
