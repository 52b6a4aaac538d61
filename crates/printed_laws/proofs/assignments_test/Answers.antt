use Rattle.printed_laws.proofs.Assigned.{assignments_test as law}
use Rattle.printed_laws.proofs.assignments_test.Goals as goal

pub returns : goal.returns
returns c = law
