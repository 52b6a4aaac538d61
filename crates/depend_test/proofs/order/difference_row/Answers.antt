use Rattle.nest_systems.proofs.Mapping.{length-mapped}
use Rattle.std.proofs.Common.{eq-eqb}
use Rattle.depend_test.proofs.order.difference_row.Goals as goal

pub returns-clause-width : goal.returns-clause-width
returns-clause-width c = eq-eqb _ _ (length-mapped _ _ _ c.in_ok-coefs.ensures)
