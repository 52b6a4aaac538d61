use Rattle.piece_laws.proofs.Skew.{skew_piece as law}
use Rattle.piece_laws.proofs.skew_makes_skewed_piece.Goals as goal

pub returns : goal.returns
returns c = law
