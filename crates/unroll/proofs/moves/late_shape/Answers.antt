use Rattle.std.proofs.Common.{sym}
use Rattle.unroll.proofs.Pairing.{fit-counts}
use Rattle.unroll.proofs.moves.late_shape.Goals as goal

pub is_large-requires : goal.is_large-requires
is_large-requires c = rw c.as_slice-nests.ensures (sym (fit-counts _ c.args.level c.args.kernel.now.nests c.args.roles.now c.requires.roles))
