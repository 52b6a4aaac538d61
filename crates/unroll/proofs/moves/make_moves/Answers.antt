use Rattle.affine_moves.proofs.Counted.{shaped-placed}
use Rattle.unroll.proofs.Moving.{moves_by-fits}
use Rattle.unroll.proofs.moves.make_moves.Goals as goal

pub all_pieces-requires-clause-placed : goal.all_pieces-requires-clause-placed
all_pieces-requires-clause-placed c = rw c.as_slice-nests.ensures (shaped-placed c.args.kernel.now c.requires.shaped)

pub returns-clause-fits : goal.returns-clause-fits
returns-clause-fits c =
    let k = rw c.as_slice-nests.ensures at c.count_sharers.ensures.value in
    let p = rw (c.as_slice-nests.ensures, k) at c.in_ok-pieces.ensures in
    let a = rw c.as_slice-nests.ensures at c.in_ok-applies.ensures in
    rw (p, a) (moves_by-fits c.args.kernel.now c.args.nest.now c.args.level c.args.factor c.args.rests c.args.roles.now c.requires.shaped c.requires.low c.requires.roles c.requires.room)
