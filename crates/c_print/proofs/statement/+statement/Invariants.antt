use Rattle.c_print.proofs.Texts.{statements}
use Rattle.c_print.proofs.Backwards.{IsPut}
use Rattle.c_print.proofs.statement.+statement.Given as goal

abbrev pub invariant-print_block-loop-at : goal.invariant-print_block-loop-at
invariant-print_block-loop-at l = IsPut (statements l.indent) l.body l.at l.initial.out l.out

abbrev pub decreases-print_block-loop-at : goal.decreases-print_block-loop-at
decreases-print_block-loop-at l = l.at
