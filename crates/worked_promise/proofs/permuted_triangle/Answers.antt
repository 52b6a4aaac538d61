use Rattle.worked_promise.proofs.Triangle.{permuted_triangle as law}
use Rattle.worked_promise.proofs.permuted_triangle.Goals as goal

pub returns : goal.returns
returns c = law
