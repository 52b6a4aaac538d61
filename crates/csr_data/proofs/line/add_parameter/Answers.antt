use Rattle.std.proofs.Common.{◌≤◌, ◌^◌, sym, subst, arith}
use Rattle.csr_data.specs.Parameters.{number_in}
use Rattle.csr_data.proofs.Small.{small_more}
use Rattle.csr_data.proofs.line.add_parameter.Goals as goal

pub returns-clause-small : goal.returns-clause-small
returns-clause-small c = λ small x.
    subst (λ l. number_in l x ≤ 2 ^ 24) (sym c.in-Ok.ensures.items) (small_more c.args.params.now.items (record { name = c.args.name; value = c.get-value.result }) small (omega arith) x)
