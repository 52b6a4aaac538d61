use Rattle.point_laws.proofs.Plain.{places_alike}
use Rattle.point_laws.proofs.plain_places_alike.Goals as goal

pub returns : goal.returns
returns c = places_alike
