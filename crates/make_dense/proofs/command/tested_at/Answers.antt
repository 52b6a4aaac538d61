use Rattle.make_dense.proofs.Moved.{judged-below, judged-at, made-of}
use Rattle.make_dense.proofs.Tested.{fault-at}
use Rattle.make_dense.proofs.command.tested_at.Goals as goal

pub bounds-as_slice-statement : goal.bounds-as_slice-statement
bounds-as_slice-statement c = rw c.as_slice.ensures (judged-below c.args.kernel.now c.args.statement c.args.level c.args.matrix.now c.requires.judged)

pub tested_nest-requires-clause-judged : goal.tested_nest-requires-clause-judged
tested_nest-requires-clause-judged c =
    judged-at c.args.kernel.now c.args.statement c.args.level c.args.matrix.now c.index-as_slice-statement.result c.requires.shaped c.requires.judged (rw c.as_slice.ensures at c.index-as_slice-statement.is)

pub returns-clause-dense : goal.returns-clause-dense
returns-clause-dense c =
    let j = judged-at c.args.kernel.now c.args.statement c.args.level c.args.matrix.now c.index-as_slice-statement.result c.requires.shaped c.requires.judged (rw c.as_slice.ensures at c.index-as_slice-statement.is) in
    made-of c.args.kernel.now c.args.statement c.args.level c.args.matrix.now c.index-as_slice-statement.result c.tested_nest.result j c.tested_nest.ensures.dense c.tested_nest.ensures.tested

pub returns-clause-faults : goal.returns-clause-faults
returns-clause-faults c =
    let j = judged-at c.args.kernel.now c.args.statement c.args.level c.args.matrix.now c.index-as_slice-statement.result c.requires.shaped c.requires.judged (rw c.as_slice.ensures at c.index-as_slice-statement.is) in
    fault-at c.args.kernel.now c.args.statement c.index-as_slice-statement.result c.args.level c.args.matrix.now c.tested_nest.result j.found c.tested_nest.ensures.faults
