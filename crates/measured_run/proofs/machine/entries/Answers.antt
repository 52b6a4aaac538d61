use Rattle.std.proofs.Common.{ℕ, Option, ap, ◌∙◌}
use Rattle.std.specs.Option.{unwrap_or}
use Rattle.c_meaning.specs.Names.{Name}
use Rattle.csr_data.specs.Parameters.{number_in}
use Rattle.csr_data.specs.Values.{params_of}
use Rattle.measured_run.proofs.Told.{value_or}
use Rattle.measured_run.proofs.machine.entries.Goals as goal

pub returns : goal.returns
returns c =
    let ps = params_of c.args.values.now in
    c.unwrap_or.ensures ∙ ap (λ (o : Option ℕ). unwrap_or o 0) c.param.ensures ∙ value_or ps c.name.result ∙ ap (λ (x : Name). number_in ps x) c.name.ensures
