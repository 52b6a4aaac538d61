use Rattle.system_laws.proofs.Worked.{passed_row_of_triangle as law}
use Rattle.system_laws.proofs.passed_row_of_triangle.Goals as goal

pub returns : goal.returns
returns c = law
