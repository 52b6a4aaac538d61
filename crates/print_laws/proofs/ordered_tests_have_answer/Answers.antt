use Rattle.print_laws.proofs.Asked.{ordered as law}
use Rattle.print_laws.proofs.ordered_tests_have_answer.Goals as goal

pub returns : goal.returns
returns c = law
