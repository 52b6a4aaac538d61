use Rattle.promise_laws.proofs.Prescribed.{one_through as law}
use Rattle.promise_laws.proofs.one_moved_list.Goals as goal

pub returns : goal.returns
returns c = law
