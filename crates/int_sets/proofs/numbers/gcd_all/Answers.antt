use Rattle.std.proofs.Common.{refl, drop, sym, ◌∙◌}
use Rattle.int_rows.specs.Gcd.{gcd_of}
use Rattle.int_sets.proofs.Dividing.{one-fold}
use Rattle.int_sets.proofs.numbers.gcd_all.Goals as goal

pub loop-z-init : goal.loop-z-init
unfolding gcd_of
loop-z-init c = refl

pub returns-then-found-eq1 : goal.returns-then-found-eq1
returns-then-found-eq1 c = sym (one-fold (drop c.loop-z.z-index c.args.numbers.now)) ∙ (rw c.if-found-eq1.true at c.loop-z.invariant)
