use Rattle.system_laws.proofs.Worked.{bounds_of_triangle as law}
use Rattle.system_laws.proofs.bounds_of_triangle.Goals as goal

pub returns : goal.returns
returns c = law
