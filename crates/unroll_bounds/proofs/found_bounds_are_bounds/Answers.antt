use Rattle.unroll_bounds.proofs.Bounded.{bounded as law}
use Rattle.unroll_bounds.proofs.found_bounds_are_bounds.Goals as goal

pub returns : goal.returns
returns c = law
