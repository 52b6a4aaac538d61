use Rattle.std.proofs.Common.{◌≡◌, sym, ap, ◌∙◌, ◌++◌, subst, Err, Some}
use Rattle.chill_base.specs.declared.faults.Stop.{Stop}
use Rattle.csr_data.specs.declared.fault.ValuesFault.{ValuesFault}
use Rattle.csr_data.specs.Reading.{told, rest_of, ReadsStop}
use Rattle.csr_data.proofs.AtHand.{stopped_here}
use Rattle.csr_data.proofs.reader.DataReader.feed_on.Goals as goal

pub returns-in-Err-clause-reads : goal.returns-in-Err-clause-reads
returns-in-Err-clause-reads c =
    let r = c.args.self.now in
    subst (λ (s : Stop ValuesFault). ReadsStop (Err s) (λ more. told r.halt r.held (c.args.piece.now ++ more)) (told (Some c.in-Err.halt) c.take_all.new.self)) (sym c.stop.ensures) (stopped_here r.halt r.held c.in-Err.halt c.args.piece.now (rest_of c.take_all.new.self) _ c.requires.goes c.in-Err.ensures.reads)
