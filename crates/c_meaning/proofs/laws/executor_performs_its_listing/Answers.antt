use Rattle.c_meaning.proofs.Executors.{executor_performs}
use Rattle.c_meaning.proofs.laws.executor_performs_its_listing.Goals as goal

pub returns : goal.returns
returns c = λ body values m e. executor_performs body values m e
