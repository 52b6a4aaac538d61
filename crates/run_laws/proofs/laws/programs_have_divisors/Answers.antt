use Rattle.run_laws.proofs.Divisors.{program_divides}
use Rattle.run_laws.proofs.laws.programs_have_divisors.Goals as goal

pub returns : goal.returns
returns c = program_divides
