use Rattle.nest_laws.proofs.Laws.{tile_law as law}
use Rattle.nest_laws.proofs.commands.tile_is_one_to_one.Goals as goal

pub returns : goal.returns
returns c = law
