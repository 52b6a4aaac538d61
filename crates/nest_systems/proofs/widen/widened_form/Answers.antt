use Rattle.std.proofs.Common.{eq-eqb}
use Rattle.nest_systems.proofs.Mapping.{length-mapped}
use Rattle.nest_systems.proofs.widen.widened_form.Goals as goal

pub returns-clause-width : goal.returns-clause-width
returns-clause-width c = eq-eqb _ _ (length-mapped _ _ _ c.in_ok-widened_numbers.ensures)
