use Rattle.affine_moves.proofs.Counted.{shares-within}
use Rattle.affine_moves.proofs.placed.child_in.Goals as goal

pub child_at-requires-clause-within : goal.child_at-requires-clause-within
child_at-requires-clause-within c = rw c.as_slice.ensures (shares-within c.args.level c.args.nest.now c.args.other.now c.requires.shares c.requires.some)
