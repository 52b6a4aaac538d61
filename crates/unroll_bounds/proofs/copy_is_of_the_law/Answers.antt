use Rattle.unroll_bounds.proofs.Copies.{copies as law}
use Rattle.unroll_bounds.proofs.copy_is_of_the_law.Goals as goal

pub returns : goal.returns
returns c = law
