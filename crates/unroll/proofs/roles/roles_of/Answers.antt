use Rattle.std.proofs.Common.{length, sym, ◌∙◌}
use Rattle.unroll.specs.Moves.{roles_of}
use Rattle.unroll.proofs.Pairing.{roles_of-fit, roles-more, roles-end}
use Rattle.unroll.proofs.roles.roles_of.Goals as goal

pub loop-other-preserved : goal.loop-other-preserved
loop-other-preserved c =
    roles-more c.args.head.now c.args.level c.args.nest.now c.args.nests.now c.loop-other.other-index c.loop-other.roles (roles_of (length c.args.head.now.params) c.args.level c.args.nest.now c.args.nests.now)
    c.other-item.result c.loop-other-test.true c.other-item.is c.in-Some.role c.push.new.self (sym c.in-Some.is ∙ c.in_ok-role.ensures) c.in_ok-push-in-Some.ensures.ok c.loop-other.invariant

pub returns-clause-fit : goal.returns-clause-fit
returns-clause-fit c =
    roles_of-fit c.args.head.now c.args.level c.args.nest.now c.requires.level c.args.nests.now c.loop-other.roles c.requires.shaped
    (roles-end c.args.head.now c.args.level c.args.nest.now c.args.nests.now c.loop-other.other-index c.loop-other.roles (roles_of (length c.args.head.now.params) c.args.level c.args.nest.now c.args.nests.now) c.loop-other-test.false c.loop-other.invariant)
