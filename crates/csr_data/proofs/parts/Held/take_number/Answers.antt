use Rattle.std.proofs.Common.{◌≡◌, sym, ap, ◌∙◌, Err}
use Rattle.csr_data.proofs.AtHand.{second}
use Rattle.csr_data.proofs.parts.Held.take_number.Goals as goal

pub returns-then-self-gt0-clause-reads : goal.returns-then-self-gt0-clause-reads
returns-then-self-gt0-clause-reads c = λ more.
    second c.args.self.now c.args.wanted.now c.args.byte c.requires.headed (sym c.is_parameter.ensures ∙ c.if-is_parameter.true) c.if-self-gt0.true c.requires.inside c.if-byte-eq32.false more ∙ ap (λ f. Err f) (sym c.line_fault.ensures)
