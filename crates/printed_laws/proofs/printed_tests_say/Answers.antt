use Rattle.printed_laws.proofs.Bounds.{tests_say as law}
use Rattle.printed_laws.proofs.printed_tests_say.Goals as goal

pub returns : goal.returns
returns c = law
