use Rattle.worked_acceptance.proofs.Examples.{copy_accepted, next_refused}
use Rattle.worked_acceptance.proofs.worked_copies.Goals as goal

pub returns-clause-accepted : goal.returns-clause-accepted
returns-clause-accepted c = copy_accepted

pub returns-clause-refused : goal.returns-clause-refused
returns-clause-refused c = next_refused
