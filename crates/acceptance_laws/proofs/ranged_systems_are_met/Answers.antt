use Rattle.acceptance_laws.proofs.Systems.{systems_met as law}
use Rattle.acceptance_laws.proofs.ranged_systems_are_met.Goals as goal

pub returns : goal.returns
returns c = law
