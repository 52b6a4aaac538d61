use Rattle.std.proofs.Common.{sym}
use Rattle.std.specs.Prelude.{codes}
use Rattle.std.proofs.lemmas.List.{take_rest}
use Rattle.std.proofs.lemmas.Result.{on_ok_weaker}
use Rattle.c_print.specs.Program.{param_text, array_text}
use Rattle.c_print.proofs.ProgramParts.{parameters_put}
use Rattle.c_print.proofs.program.print_parameters.Goals as goal

pub returns : goal.returns
returns c =
    on_ok_weaker c.print_param.result
    (λ put. parameters_put (codes ", ") param_text array_text c.args.params.now _ c.args.arrays.now c.index-params-0.result c.args.out.now (sym c.if-is_empty.ensures) c.index-params-0.is
    c.in_ok-print_further_arrays.ensures c.in_ok-print_further_params.ensures put (take_rest c.args.params.now 1))
    c.print_param.ensures
