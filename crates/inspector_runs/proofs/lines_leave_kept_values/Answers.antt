use Rattle.std.proofs.Common.{arith}
use Rattle.inspector_runs.specs.Shown.{cleared}
use Rattle.inspector_runs.specs.Examples.{made, memory, keeping}
use Rattle.inspector_runs.proofs.Heads.{lines_leave as law}
use Rattle.inspector_runs.proofs.Worked.{fits_cleared, sizes_are, keeps, starts_are, values_are, number_is}
use Rattle.inspector_runs.proofs.lines_leave_kept_values.Goals as goal

pub returns : goal.returns
returns c = record {
  law = law;
  fits = fits_cleared 3 (omega arith);
  sizes_fit = sizes_are 3;
  no_fault = keeps.ends;
  turns = keeps.turned;
  starts = starts_are (cleared made memory) (keeping 3).last keeps.meets;
  values = values_are (cleared made memory) (keeping 3).last keeps.meets;
  number = number_is (cleared made memory) (keeping 3).last keeps.meets;
}
