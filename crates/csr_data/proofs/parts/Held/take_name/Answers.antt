use Rattle.std.proofs.Common.{◌≡◌, sym, ap, ◌∙◌, length, get_or, ◌<◌, arith}
use Rattle.csr_data.proofs.AtHand.{next_name}
use Rattle.csr_data.proofs.parts.Held.take_name.Goals as goal

pub returns-then-self-bytes-clause-reads : goal.returns-then-self-bytes-clause-reads
returns-then-self-bytes-clause-reads c = λ more.
    let h = c.args.self.now in
    let bytes = c.bytes-bytes.ensures.bytes ∙ c.line_name-name.ensures in
    let n = ap length bytes in let lt = c.if-self-bytes.true in
    next_name h c.args.wanted.now c.args.byte c.requires.about c.requires.headed (omega (arith, n, lt)) (ap (λ l. get_or l h.matched 0) (sym bytes) ∙ grind (arith, c.if-bytes-self.false)) c.requires.inside more
