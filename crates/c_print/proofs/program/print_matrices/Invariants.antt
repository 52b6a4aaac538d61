use Rattle.c_print.proofs.Texts.{matrix_lines}
use Rattle.c_print.proofs.Backwards.{IsPut}
use Rattle.c_print.proofs.program.print_matrices.Given as goal

abbrev pub invariant-loop-at : goal.invariant-loop-at
invariant-loop-at l = IsPut matrix_lines l.matrices l.at l.initial.out l.out

abbrev pub decreases-loop-at : goal.decreases-loop-at
decreases-loop-at l = l.at
