use Rattle.scanning_laws.proofs.Assigning.{assigned_is as law}
use Rattle.scanning_laws.proofs.assignments_are_made.Goals as goal

pub returns : goal.returns
returns c = law
