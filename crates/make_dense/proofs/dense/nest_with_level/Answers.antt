use Rattle.make_dense.proofs.Fitted.{dense-fits}
use Rattle.make_dense.proofs.Densed.{level-shaped, level-high}
use Rattle.make_dense.proofs.dense.nest_with_level.Goals as goal

pub make_nest-requires-clause-piece : goal.make_nest-requires-clause-piece
make_nest-requires-clause-piece c = rw c.in_ok-piece.ensures (dense-fits c.args.head.now c.args.nest.now c.args.level c.args.matrix.now c.requires.shaped c.requires.low c.requires.high c.requires.room)

pub returns-clause-shaped : goal.returns-clause-shaped
returns-clause-shaped c = level-shaped c.args.head.now c.args.nest.now c.args.level c.args.matrix.now c.requires.shaped c.requires.low c.requires.high c.requires.room c.make_nest.result (rw c.in_ok-piece.ensures at c.make_nest.ensures)

pub returns-clause-high : goal.returns-clause-high
returns-clause-high c = level-high c.args.head.now c.args.nest.now c.args.level c.args.matrix.now c.requires.shaped c.requires.low c.requires.high c.requires.room c.make_nest.result (rw c.in_ok-piece.ensures at c.make_nest.ensures)
