use Rattle.c_print.proofs.Texts.{further_tests}
use Rattle.c_print.proofs.Backwards.{IsPut}
use Rattle.c_print.proofs.statement.print_further_tests.Given as goal

abbrev pub invariant-loop-at : goal.invariant-loop-at
invariant-loop-at l = IsPut further_tests l.tests l.at l.initial.out l.out

abbrev pub decreases-loop-at : goal.decreases-loop-at
decreases-loop-at l = l.at
