use Rattle.std.proofs.Common.{sym}
use Rattle.unroll.proofs.Pairing.{deep}
use Rattle.unroll.proofs.shapes.tangles.Goals as goal

pub any_tangled-requires-clause-level : goal.any_tangled-requires-clause-level
any_tangled-requires-clause-level c = deep c.args.head.now c.args.level c.args.nest.now c.requires.level c.args.other.now c.requires.shaped (sym c.if-shares_loop.ensures)
