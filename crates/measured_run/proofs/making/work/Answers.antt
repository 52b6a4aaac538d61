use Rattle.measured_run.specs.declared.making.TheConstants.{RECIPE, SOURCE}
use Rattle.measured_run.proofs.Written.{measured, denied}
use Rattle.measured_run.proofs.making.work.Goals as goal

pub returns-clause-ok : goal.returns-clause-ok
returns-clause-ok c =
    measured RECIPE.now SOURCE.now c.in_ok-written.written c.as_slice.result.now c.as_slice-2.result.now c.args.size c.run_text.result c.in_ok-written.ensures.ok c.as_slice.ensures c.run_text.ensures.ok

pub returns-clause-refused : goal.returns-clause-refused
returns-clause-refused c =
    denied RECIPE.now SOURCE.now c.in_ok-written.written c.as_slice.result.now c.as_slice-2.result.now c.run_text.result c.in_ok-written.ensures.ok c.as_slice.ensures c.run_text.ensures.refused
