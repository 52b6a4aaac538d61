use Rattle.std.proofs.Common.{◌≡◌, [], sym, ap, ◌∙◌, subst}
use Rattle.csr_data.specs.Reading.{rest_of, checked, Tells}
use Rattle.csr_data.proofs.AtHand.{tells_fault}
use Rattle.csr_data.proofs.parts.Held.end.Goals as goal

pub returns-in-Err-clause-tells : goal.returns-in-Err-clause-tells
returns-in-Err-clause-tells c = tells_fault c.args.self.program.now c.in-Err.halt (rest_of c.args.self []) _ c.in-Err.ensures.reads

pub returns-in-Ok-clause-tells : goal.returns-in-Ok-clause-tells
returns-in-Ok-clause-tells c =
    let old = c.args.self in let new = c.close.new.self in
    subst (Tells c.closed_values.result) (sym (ap (checked old.program.now) (c.in-Ok.ensures.reads []) ∙ ap (λ q. checked q.now (rest_of new [])) (sym c.in-Ok.ensures.program))) c.closed_values.ensures.tells
