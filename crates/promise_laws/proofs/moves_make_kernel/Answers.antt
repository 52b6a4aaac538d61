use Rattle.promise_laws.proofs.Moved.{moves_kernel as law}
use Rattle.promise_laws.proofs.moves_make_kernel.Goals as goal

pub returns : goal.returns
returns c = law
