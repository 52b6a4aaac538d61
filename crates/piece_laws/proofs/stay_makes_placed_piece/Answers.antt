use Rattle.piece_laws.proofs.Pieces.{placed_pieces as law}
use Rattle.piece_laws.proofs.stay_makes_placed_piece.Goals as goal

pub returns : goal.returns
returns c = law
