use Rattle.c_print.proofs.Texts.{extents_of}
use Rattle.c_print.proofs.Backwards.{IsPut}
use Rattle.c_print.proofs.program.print_extents.Given as goal

abbrev pub invariant-loop-at : goal.invariant-loop-at
invariant-loop-at l = IsPut extents_of l.extents l.at l.initial.out l.out

abbrev pub decreases-loop-at : goal.decreases-loop-at
decreases-loop-at l = l.at
