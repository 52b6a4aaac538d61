use Rattle.read_back.proofs.Programs.{program_reads}
use Rattle.read_back.proofs.program_reads_back.Goals as goal

pub returns : goal.returns
returns c = program_reads
