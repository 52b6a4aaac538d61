use Rattle.c_print.proofs.Texts.{further_extents}
use Rattle.c_print.proofs.Backwards.{IsPut}
use Rattle.c_print.proofs.statement.print_extents.Given as goal

abbrev pub invariant-loop-at : goal.invariant-loop-at
invariant-loop-at l = IsPut further_extents l.extents l.at l.initial.out l.out

abbrev pub decreases-loop-at : goal.decreases-loop-at
decreases-loop-at l = l.at
