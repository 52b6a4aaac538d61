use Rattle.nest_systems.proofs.Making.{projection-made}
use Rattle.nest_systems.proofs.project.project_nest.Goals as goal

pub returns : goal.returns
returns c = projection-made _ _ _ c.args.level c.in_ok-own.own _ c.len.result c.as_slice-2.result.now c.in_ok-own.ensures c.in_ok-terms.ensures c.len.ensures c.as_slice-2.ensures c.in_ok-rows.ensures
