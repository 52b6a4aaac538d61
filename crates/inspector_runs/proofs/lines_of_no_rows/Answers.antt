use Rattle.std.proofs.Common.{ap, arith, [], ◌∷◌}
use Rattle.inspector_runs.proofs.Heads.{no_rows as law}
use Rattle.inspector_runs.proofs.Worked.{fits_cleared, sizes_are, keeps_none}
use Rattle.inspector_runs.proofs.lines_of_no_rows.Goals as goal

pub returns : goal.returns
returns c = record {
  law = law;
  fits = fits_cleared 0 (omega arith);
  sizes_fit = sizes_are 0;
  no_fault = keeps_none.ends;
  turns = keeps_none.turned;
  number = ap (λ v. v ∷ []) keeps_none.meets.num;
}
