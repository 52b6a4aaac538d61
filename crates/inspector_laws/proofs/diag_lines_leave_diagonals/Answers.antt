use Rattle.std.proofs.Common.{refl, pos, negsuc, [], ◌∷◌}
use Rattle.inspector_laws.proofs.Layering.{lays_diagonals as law}
use Rattle.inspector_laws.proofs.WorkedLayouts.{diagonals_of_four, diagonals_of_repeated}
use Rattle.inspector_laws.proofs.diag_lines_leave_diagonals.Goals as goal

pub returns : goal.returns
returns c = record {
  law = law;
  no_fault = diagonals_of_repeated.ends;
  turns = diagonals_of_repeated.turned;
  sum = diagonals_of_repeated.meets.sums.sums 0 (pos 1) (pos 0 ∷ []) refl;
  one = diagonals_of_repeated.meets.sums.sums 0 (pos 0) (pos 0 ∷ []) refl;
  extents = diagonals_of_repeated.meets.lay_long;
  below = diagonals_of_four.meets.sums.sums 0 (negsuc 1) (pos 2 ∷ []) refl;
}
