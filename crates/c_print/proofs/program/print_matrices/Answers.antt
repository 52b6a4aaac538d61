use Rattle.std.proofs.Common.{◌++◌, ◌-◌, refl, arith}
use Rattle.std.specs.Prelude.{codes}
use Rattle.c_print.specs.Program.{matrix_text}
use Rattle.c_print.proofs.Pieces.{two}
use Rattle.c_print.proofs.Backwards.{begins, turn, ends}
use Rattle.c_print.proofs.Texts.{matrix_lines}
use Rattle.c_print.proofs.program.print_matrices.Goals as goal

pub loop-at-init : goal.loop-at-init
loop-at-init c = begins matrix_lines c.args.matrices.now c.args.out.now refl

pub loop-at-preserved : goal.loop-at-preserved
loop-at-preserved c =
    turn matrix_lines (λ m. matrix_text m ++ codes "\n") c.args.matrices.now (c.loop-at.at - 1) c.loop-at.at c.index-matrices-at.result c.args.out.now c.loop-at.out c.print_matrix.new.out (λ _ _. refl) c.loop-at.invariant (omega arith) c.index-matrices-at.is
    (two (matrix_text c.index-matrices-at.result) (codes "\n") c.loop-at.out c.in_ok-put.ensures c.in_ok-print_matrix.ensures refl refl)

pub returns : goal.returns
returns c = ends matrix_lines c.args.matrices.now _ _ _ c.loop-at.invariant c.loop-at-test.false
