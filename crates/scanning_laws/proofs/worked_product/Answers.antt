use Rattle.scanning_laws.proofs.Product.{product_text as law}
use Rattle.scanning_laws.proofs.worked_product.Goals as goal

pub returns : goal.returns
returns c = law
