use Rattle.scanning_laws.proofs.Triangle.{triangle_text as law}
use Rattle.scanning_laws.proofs.worked_triangle.Goals as goal

pub returns : goal.returns
returns c = law
