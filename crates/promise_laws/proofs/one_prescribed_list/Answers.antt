use Rattle.promise_laws.proofs.Prescribed.{one_prescribed as law}
use Rattle.promise_laws.proofs.one_prescribed_list.Goals as goal

pub returns : goal.returns
returns c = law
