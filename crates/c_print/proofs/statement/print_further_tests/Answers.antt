use Rattle.std.proofs.Common.{◌++◌, ◌-◌, refl, arith}
use Rattle.std.specs.Prelude.{codes}
use Rattle.c_print.specs.Statement.{test_text}
use Rattle.c_print.proofs.Pieces.{two}
use Rattle.c_print.proofs.Backwards.{begins, turn, ends}
use Rattle.c_print.proofs.Texts.{further_tests}
use Rattle.c_print.proofs.statement.print_further_tests.Goals as goal

pub loop-at-init : goal.loop-at-init
loop-at-init c = begins further_tests c.args.tests.now c.args.out.now refl

pub loop-at-preserved : goal.loop-at-preserved
loop-at-preserved c =
    turn further_tests (λ t. codes " && " ++ test_text t) c.args.tests.now (c.loop-at.at - 1) c.loop-at.at c.index-tests-at.result c.args.out.now c.loop-at.out c.put.new.self (λ _ _. refl) c.loop-at.invariant (omega arith) c.index-tests-at.is
    (two (codes " && ") (test_text c.index-tests-at.result) c.loop-at.out c.in_ok-print_test.ensures c.in_ok-put.ensures refl refl)

pub returns : goal.returns
returns c = ends further_tests c.args.tests.now _ _ _ c.loop-at.invariant c.loop-at-test.false
