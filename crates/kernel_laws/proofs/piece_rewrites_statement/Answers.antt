use Rattle.kernel_laws.proofs.Pieces.{rewrites}
use Rattle.kernel_laws.proofs.piece_rewrites_statement.Goals as goal

pub returns : goal.returns
returns c = rewrites
