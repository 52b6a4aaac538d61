use Rattle.std.proofs.Common.{sym}
use Rattle.nest_systems.proofs.Meeting.{alike-found}
use Rattle.nest_systems.proofs.choose.find_alike.Goals as goal

pub returns-then-is_alike-clause-value : goal.returns-then-is_alike-clause-value
returns-then-is_alike-clause-value c = alike-found c.args.first c.args.terms.now c.args.same.now c.args.among.now c.args.term c.loop-other.other-index _ c.loop-other-test.true (sym c.if-is_alike.ensures) c.loop-other.invariant
