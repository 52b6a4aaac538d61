use Rattle.std.proofs.Common.{[]}
use Rattle.csr_data.specs.Reading.{closed_of, rest_of}
use Rattle.csr_data.proofs.AtHand.{reads_end}
use Rattle.csr_data.proofs.parts.Held.close.Goals as goal

pub returns-in-Ok-clause-reads : goal.returns-in-Ok-clause-reads
returns-in-Ok-clause-reads c = reads_end c.end_line.result (rest_of c.args.self.now []) (closed_of c.begin.new.self c.in-Ok.wanted) _ (c.in-Ok.ensures.open c.if-self.true []) c.end_line.ensures.reads
