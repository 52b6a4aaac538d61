use Rattle.std.proofs.Common.{ℕ, drop}
use Rattle.depend_test.specs.Systems.{DecidesNew}
use Rattle.depend_test.proofs.Firsts.{Passed}
use Rattle.depend_test.proofs.first.first_new.Given as goal

abbrev pub invariant-loop-carrier : goal.invariant-loop-carrier
invariant-loop-carrier l = Passed (DecidesNew l.system l.pair l.shared) (λ (n : ℕ). n) l.carriers (drop l.carrier-index l.carriers)
