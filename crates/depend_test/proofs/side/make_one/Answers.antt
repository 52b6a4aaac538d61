use Rattle.depend_test.proofs.Moving.{pieces-shaped}
use Rattle.depend_test.proofs.side.make_one.Goals as goal

pub moved_of-requires : goal.moved_of-requires
moved_of-requires c = record {
  shaped = rw c.as_slice.ensures (pieces-shaped _ c.args.nest.now _ _ c.requires.nest c.requires.pieces c.requires.some c.in_ok-nests.ensures);
  makes = rw c.as_slice.ensures c.in_ok-nests.ensures;
}
