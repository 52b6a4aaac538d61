use Rattle.std.proofs.Common.{◌++◌, ◌-◌, refl, arith}
use Rattle.std.specs.Prelude.{codes}
use Rattle.c_print.specs.Program.{param_text}
use Rattle.c_print.proofs.Pieces.{two}
use Rattle.c_print.proofs.Backwards.{begins, turn, ends}
use Rattle.c_print.proofs.Texts.{further_params}
use Rattle.c_print.proofs.program.print_further_params.Goals as goal

pub loop-at-init : goal.loop-at-init
loop-at-init c = begins further_params c.args.params.now c.args.out.now refl

pub loop-at-preserved : goal.loop-at-preserved
loop-at-preserved c =
    turn further_params (λ x. codes ", " ++ param_text x) c.args.params.now (c.loop-at.at - 1) c.loop-at.at c.index-params-at.result c.args.out.now c.loop-at.out c.put.new.self (λ _ _. refl) c.loop-at.invariant (omega arith) c.index-params-at.is
    (two (codes ", ") (param_text c.index-params-at.result) c.loop-at.out c.in_ok-print_param.ensures c.in_ok-put.ensures refl refl)

pub returns : goal.returns
returns c = ends further_params c.args.params.now _ _ _ c.loop-at.invariant c.loop-at-test.false
