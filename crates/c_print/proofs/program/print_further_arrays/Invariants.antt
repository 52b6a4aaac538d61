use Rattle.c_print.proofs.Texts.{further_arrays}
use Rattle.c_print.proofs.Backwards.{IsPut}
use Rattle.c_print.proofs.program.print_further_arrays.Given as goal

abbrev pub invariant-loop-at : goal.invariant-loop-at
invariant-loop-at l = IsPut further_arrays l.arrays l.at l.initial.out l.out

abbrev pub decreases-loop-at : goal.decreases-loop-at
decreases-loop-at l = l.at
