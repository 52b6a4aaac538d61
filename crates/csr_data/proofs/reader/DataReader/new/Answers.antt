use Rattle.csr_data.proofs.Accepted.{is_signature}
use Rattle.csr_data.proofs.reader.DataReader.new.Goals as goal

-- src/reader.rt:31:19
pub new-requires : goal.new-requires
new-requires c = is_signature c.args.program.now c.requires.rules c.requires.divisors
