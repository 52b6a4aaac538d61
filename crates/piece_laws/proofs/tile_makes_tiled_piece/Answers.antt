use Rattle.piece_laws.proofs.Pieces.{tile_piece as law}
use Rattle.piece_laws.proofs.tile_makes_tiled_piece.Goals as goal

pub returns : goal.returns
returns c = law
