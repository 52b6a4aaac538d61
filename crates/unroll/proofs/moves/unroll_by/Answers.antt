use Rattle.std.proofs.Common.{length}
use Rattle.unroll.proofs.Moving.{limits-hold, suits-within}
use Rattle.unroll.proofs.moves.unroll_by.Goals as goal

pub make_moves-requires-clause-roles : goal.make_moves-requires-clause-roles
make_moves-requires-clause-roles c =
    suits-within (length c.args.kernel.now.head.params) c.args.level c.args.factor (length c.args.mine.now.uppers) c.args.kernel.now.nests c.args.roles.now c.requires.roles
    (limits-hold c.args.factor (length c.args.mine.now.uppers) c.args.kernel.now.nests c.args.roles.now c.in_default.ensures.large)
