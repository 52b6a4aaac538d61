use Rattle.std.proofs.Common.{◌≡◌, ℕ, suc, ◌+◌, ◌<◌, ◌≤◌, ◌++◌, ◌∷◌, List, [], drop, drop-cons, length, get_or, sym, ap, ◌∙◌, arith}
use Rattle.csr_data.specs.Reading.{rest_of}
use Rattle.csr_data.proofs.AtHand.{reads_fault}
use Rattle.csr_data.proofs.Bytes.{next_byte, no_byte}
use Rattle.csr_data.proofs.parts.Held.take_all.Goals as goal

pub returns-in-Err-clause-reads : goal.returns-in-Err-clause-reads
returns-in-Err-clause-reads c =
    let l = c.loop-at in
    reads_fault c.in-Err.halt (λ more. rest_of c.args.self.now (c.args.piece.now ++ more)) (λ more. rest_of l.self (get_or c.args.piece.now l.at 0 ∷ more)) (rest_of c.take.new.self) _ (drop (l.at + 1) c.args.piece.now)
    (λ more. l.invariant.told more ∙ ap (rest_of l.self) (next_byte c.args.piece.now l.at more c.loop-at-test.true)) c.in-Err.ensures.reads

pub returns-clause-read : goal.returns-clause-read
returns-clause-read c = let l = c.loop-at in let w = l.invariant.within in let r = l.invariant.read in let end = c.loop-at-test.false in (omega (arith, w, r, end), l.invariant.program)

pub returns-clause-reads : goal.returns-clause-reads
returns-clause-reads c = λ more. let l = c.loop-at in l.invariant.told more ∙ ap (rest_of l.self) (no_byte c.args.piece.now l.at more (let w = l.invariant.within in let end = c.loop-at-test.false in omega (arith, w, end)))

pub loop-at-preserved : goal.loop-at-preserved
loop-at-preserved c =
    let l = c.loop-at in
    let w = l.invariant.within in let r = l.invariant.read in let test = c.loop-at-test.true in let one = c.in-Ok.ensures.read.0 in
    record {
      within = omega (arith, test);
      read = omega (arith, r, one);
      program = c.in-Ok.ensures.read.1 ∙ l.invariant.program;
      told = λ more. l.invariant.told more ∙ ap (rest_of l.self) (next_byte c.args.piece.now l.at more test) ∙ c.in-Ok.ensures.reads (drop (l.at + 1) c.args.piece.now ++ more);
    }
