use Rattle.std.proofs.Common.{◌≡◌, sym, ap, ◌∙◌, ◌++◌, subst, Err}
use Rattle.chill_base.specs.declared.faults.Stop.{Stop}
use Rattle.csr_data.specs.declared.fault.ValuesFault.{ValuesFault}
use Rattle.csr_data.specs.Reading.{told, ReadsStop}
use Rattle.csr_data.proofs.AtHand.{stopped_before}
use Rattle.csr_data.proofs.reader.DataReader.feed.Goals as goal

pub returns-in-Some-clause-reads : goal.returns-in-Some-clause-reads
returns-in-Some-clause-reads c =
    let r = c.args.self.now in
    subst (λ (s : Stop ValuesFault). ReadsStop (Err s) (λ more. told r.halt r.held (c.args.piece.now ++ more)) (told r.halt r.held)) (sym c.stop.ensures) (stopped_before r.halt r.held c.in-Some.halt c.args.piece.now (told r.halt r.held) c.in-Some.is)
