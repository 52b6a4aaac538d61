use Rattle.scanning_laws.proofs.Tiles.{tiles_text as law}
use Rattle.scanning_laws.proofs.worked_tiles.Goals as goal

pub returns : goal.returns
returns c = law
