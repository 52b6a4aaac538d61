use Rattle.std.specs.Prelude.{not}
use Rattle.int_rows.specs.Exclusion.{is_plain}
use Rattle.int_sets.proofs.Calls.{IsSystem-filter}
use Rattle.int_sets.proofs.system.System.drop_plain.Goals as goal

pub invariant_of-self : goal.invariant_of-self
invariant_of-self c = rw c.in_ok-self-inside.ensures (IsSystem-filter c.self.inside.list.vars (λ r. not (is_plain r)) c.self.inside.list.rows c.self.invariant)
