use Rattle.c_meaning.proofs.Fitting.{and_left, at-Cell}
use Rattle.c_meaning.proofs.Readings.{some_extents}
use Rattle.c_walk.proofs.steps.put.Goals as goal

pub eval_subscripts-requires : goal.eval_subscripts-requires
eval_subscripts-requires g c = (_, at-Cell (g.M.View.scope c.args.memory.now) c.args.target.now (and_left _ _ c.requires))

pub cell-requires : goal.cell-requires
cell-requires g c = some_extents _ (g.M.View.scope c.args.memory.now) _ (at-Cell (g.M.View.scope c.args.memory.now) c.args.target.now (and_left _ _ c.requires))

pub set_index-requires-clause-has : goal.set_index-requires-clause-has
set_index-requires-clause-has g c = some_extents _ (g.M.View.scope c.args.memory.now) _ (at-Cell (g.M.View.scope c.args.memory.now) c.args.target.now (and_left _ _ c.requires))
