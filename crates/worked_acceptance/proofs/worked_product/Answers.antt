use Rattle.worked_acceptance.proofs.Examples.{product_kept as law}
use Rattle.worked_acceptance.proofs.worked_product.Goals as goal

pub returns : goal.returns
returns c = law
