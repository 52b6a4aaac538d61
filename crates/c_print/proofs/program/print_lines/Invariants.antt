use Rattle.c_print.proofs.Texts.{slice_lines}
use Rattle.c_print.proofs.Backwards.{IsPut}
use Rattle.c_print.proofs.program.print_lines.Given as goal

abbrev pub invariant-loop-at : goal.invariant-loop-at
invariant-loop-at l = IsPut slice_lines l.lines l.at l.initial.out l.out

abbrev pub decreases-loop-at : goal.decreases-loop-at
decreases-loop-at l = l.at
