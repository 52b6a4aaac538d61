use Rattle.std.proofs.Common.{refl, sym}
use Rattle.datacopy.proofs.Found.{level-within, box-read}
use Rattle.datacopy.proofs.shapes.copied_box.Goals as goal

pub returns-in-None-nest_shape-clause-read : goal.returns-in-None-nest_shape-clause-read
returns-in-None-nest_shape-clause-read c =
    let b = c.nest_box.ensures in
    box-read c.args.kernel.now c.args.statement c.args.level c.args.array c.in-Some.nest.now c.nest_box.result (sym c.in-Some.ensures.value)
    (level-within c.args.statement c.args.level c.args.array c.as_slice-nests.result.now c.in-Some.nest.now (sym c.in-None-nest_shape.ensures)) b.some b.few b.sides b.reads

pub returns-in-None-clause-first : goal.returns-in-None-clause-first
returns-in-None-clause-first c = rw (← c.in-None.ensures.value) refl
