use Rattle.std.proofs.Common.{sym}
use Rattle.unroll.proofs.Pairing.{deep}
use Rattle.unroll.proofs.roles.role_of.Goals as goal

pub bounds_of-requires-clause-level : goal.bounds_of-requires-clause-level
bounds_of-requires-clause-level c = deep c.args.head.now c.args.level c.args.nest.now c.requires.level c.args.other.now c.requires.shaped (sym c.if-not-shares_loop.ensures)
