use Rattle.datacopy.proofs.Reading.{reads-over}
use Rattle.datacopy.proofs.shapes.nest_box.Goals as goal

pub box_of-requires-clause-reads : goal.box_of-requires-clause-reads
box_of-requires-clause-reads c = rw (c.as_slice.ensures, c.in_ok-reads.ensures) (reads-over _ c.args.array c.args.nest.now.value c.requires.shaped.value)
