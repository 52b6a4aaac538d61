use Rattle.nest_systems.proofs.Mapping.{length-mapped}
use Rattle.nest_systems.proofs.seats.Seats.place.Goals as goal

pub returns-clause-width : goal.returns-clause-width
returns-clause-width c = length-mapped _ _ _ c.in_ok-numbers.ensures
