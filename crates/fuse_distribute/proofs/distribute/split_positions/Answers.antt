use Rattle.std.proofs.Common.{sym}
use Rattle.fuse_distribute.proofs.Lengths.{moves-within, level-some}
use Rattle.fuse_distribute.proofs.distribute.split_positions.Goals as goal

pub one_further-requires-clause-within : goal.one_further-requires-clause-within
one_further-requires-clause-within c =
    rw c.as_slice-positions.ensures (moves-within c.args.level c.args.statement c.args.nest.now c.args.number c.args.other.now (sym c.if-moves_on.ensures) c.requires.other (level-some _ _ c.requires.level))
