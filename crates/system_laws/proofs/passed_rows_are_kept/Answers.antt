use Rattle.system_laws.proofs.Tightened.{kept_rows as law}
use Rattle.system_laws.proofs.passed_rows_are_kept.Goals as goal

pub returns : goal.returns
returns c = law
