use Rattle.std.proofs.Common.{sym}
use Rattle.depend_test.specs.Candidates.{IsDecidedBetween, dependence, of_statement, candidates}
use Rattle.depend_test.proofs.Firsts.{passed-all, each-none}
use Rattle.depend_test.proofs.first.first_dependence_among.Goals as goal
use Rattle.depend_test.proofs.Carrying.{statement-found, statement-over}

pub loop-from-init : goal.loop-from-init
unfolding candidates
loop-from-init c = passed-all (IsDecidedBetween c.args.kernel.now) dependence _

pub returns-then-is_some : goal.returns-then-is_some
returns-then-is_some c = statement-found c.args.kernel.now c.args.all.now c.loop-from.from c.in_ok-found.found (sym c.if-is_some.ensures) c.loop-from-test.true c.loop-from.invariant c.in_ok-found.ensures

pub loop-from-preserved : goal.loop-from-preserved
loop-from-preserved c = statement-over c.args.kernel.now c.args.all.now c.loop-from.from c.in_ok-found.found (sym c.if-is_some.ensures) c.loop-from-test.true c.loop-from.invariant c.in_ok-found.ensures

pub returns : goal.returns
returns c = each-none (IsDecidedBetween c.args.kernel.now) dependence (candidates c.args.all.now) (of_statement c.args.all.now) c.args.all.now c.loop-from.from c.loop-from-test.false c.loop-from.invariant
