use Rattle.piece_laws.proofs.Permute.{permute_piece as law}
use Rattle.piece_laws.proofs.permute_makes_permuted_piece.Goals as goal

pub returns : goal.returns
returns c = law
