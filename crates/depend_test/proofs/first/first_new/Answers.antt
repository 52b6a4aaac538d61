use Rattle.std.proofs.Common.{ℕ}
use Rattle.depend_test.specs.Systems.{DecidesNew}
use Rattle.depend_test.proofs.Firsts.{numbers-over, numbers-found, plain-none}
use Rattle.depend_test.proofs.first.first_new.Goals as goal

pub returns-then-branch : goal.returns-then-branch
returns-then-branch c =
    numbers-found (DecidesNew c.args.system.now c.args.pair.now c.args.shared) (λ (n : ℕ). n) c.args.carriers.now c.args.carriers.now c.loop-carrier.carrier-index c.in_ok-is_open.field-0 c.loop-carrier-test.true c.if-branch.true c.loop-carrier.invariant c.in_ok-is_open.ensures

pub loop-carrier-preserved : goal.loop-carrier-preserved
loop-carrier-preserved c =
    numbers-over (DecidesNew c.args.system.now c.args.pair.now c.args.shared) (λ (n : ℕ). n) c.args.carriers.now c.args.carriers.now c.loop-carrier.carrier-index c.in_ok-is_open.field-0 c.loop-carrier-test.true c.if-branch.false c.loop-carrier.invariant c.in_ok-is_open.ensures

pub returns : goal.returns
returns c = plain-none (DecidesNew c.args.system.now c.args.pair.now c.args.shared) (λ (n : ℕ). n) c.args.carriers.now c.args.carriers.now c.loop-carrier.carrier-index c.loop-carrier-test.false c.loop-carrier.invariant
