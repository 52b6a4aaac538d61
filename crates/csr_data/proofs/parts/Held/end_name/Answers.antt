use Rattle.std.proofs.Common.{◌≡◌, sym, ap, ◌∙◌, length, ◌<◌, arith, subst, Err}
use Rattle.csr_data.specs.Wanted.{due_of}
use Rattle.csr_data.specs.Lines.{name_of, Said}
use Rattle.csr_data.proofs.AtHand.{ends_early}
use Rattle.csr_data.proofs.parts.Held.end_name.Goals as goal

pub returns-then-self-bytes-clause-reads : goal.returns-then-self-bytes-clause-reads
returns-then-self-bytes-clause-reads c = λ more.
    ends_early c.args.self.now c.args.wanted.now c.if-self.false (let n = ap length c.bytes.ensures.bytes in let e = ap length c.line_name-name.ensures in let lt = c.if-self-bytes.true in omega (arith, n, e, lt)) more ∙ ap (λ f. Err f) (sym c.line_fault.ensures)
