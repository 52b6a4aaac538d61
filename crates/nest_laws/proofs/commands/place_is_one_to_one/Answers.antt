use Rattle.nest_laws.proofs.Laws.{place_pieces as law}
use Rattle.nest_laws.proofs.commands.place_is_one_to_one.Goals as goal

pub returns : goal.returns
returns c = law
