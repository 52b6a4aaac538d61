use Rattle.csr_data.proofs.Dues.{left_at}
use Rattle.csr_data.proofs.parts.Held.begin.Goals as goal

pub invariant_of-self-clause-line_is_open : goal.invariant_of-self-clause-line_is_open
invariant_of-self-clause-line_is_open c = λ _. left_at c.args.self.now.program.now c.args.self.now.lines _ _ c.in-Some.ensures
