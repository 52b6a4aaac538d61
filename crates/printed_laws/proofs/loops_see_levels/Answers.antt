use Rattle.printed_laws.proofs.Seeing.{loops_see as law}
use Rattle.printed_laws.proofs.loops_see_levels.Goals as goal

pub returns : goal.returns
returns c = law
