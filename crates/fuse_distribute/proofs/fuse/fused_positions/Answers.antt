use Rattle.std.proofs.Common.{sym}
use Rattle.affine_moves.proofs.Counted.{shares-within}
use Rattle.fuse_distribute.proofs.fuse.fused_positions.Goals as goal

pub rehung-requires-clause-within : goal.rehung-requires-clause-within
rehung-requires-clause-within c = rw c.as_slice-positions.ensures (shares-within c.args.level c.args.second.now c.args.nest.now (sym c.if-shares_loop.ensures) c.requires.some)
