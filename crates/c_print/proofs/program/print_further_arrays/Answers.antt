use Rattle.std.proofs.Common.{◌++◌, ◌-◌, refl, arith}
use Rattle.std.specs.Prelude.{codes}
use Rattle.c_print.specs.Program.{array_text}
use Rattle.c_print.proofs.Pieces.{two}
use Rattle.c_print.proofs.Backwards.{begins, turn, ends}
use Rattle.c_print.proofs.Texts.{further_arrays}
use Rattle.c_print.proofs.program.print_further_arrays.Goals as goal

pub loop-at-init : goal.loop-at-init
loop-at-init c = begins further_arrays c.args.arrays.now c.args.out.now refl

pub loop-at-preserved : goal.loop-at-preserved
loop-at-preserved c =
    turn further_arrays (λ a. codes ", " ++ array_text a) c.args.arrays.now (c.loop-at.at - 1) c.loop-at.at c.index-arrays-at.result c.args.out.now c.loop-at.out c.put.new.self (λ _ _. refl) c.loop-at.invariant (omega arith) c.index-arrays-at.is
    (two (codes ", ") (array_text c.index-arrays-at.result) c.loop-at.out c.in_ok-print_array.ensures c.in_ok-put.ensures refl refl)

pub returns : goal.returns
returns c = ends further_arrays c.args.arrays.now _ _ _ c.loop-at.invariant c.loop-at-test.false
