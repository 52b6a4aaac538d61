use Rattle.std.proofs.Common.{◌≡◌, drop}
use Rattle.c_meaning.specs.Value.{all_hold}
use Rattle.c_walk.proofs.walk.eval_tests.Given as goal

abbrev pub invariant-loop-test : goal.invariant-loop-test
invariant-loop-test g l = all_hold (drop l.test-index l.test-items) (g.V.View.sight l.view) ≡ all_hold l.tests (g.V.View.sight l.view)
