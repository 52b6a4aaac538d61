use Rattle.piece_laws.proofs.Pieces.{shift_piece as law}
use Rattle.piece_laws.proofs.shift_makes_shifted_piece.Goals as goal

pub returns : goal.returns
returns c = law
