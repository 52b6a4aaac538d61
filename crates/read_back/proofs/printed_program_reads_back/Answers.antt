use Rattle.read_back.proofs.Whole.{printed_reads, printed_only}
use Rattle.read_back.proofs.printed_program_reads_back.Goals as goal

pub returns : goal.returns
returns c = record { reads = printed_reads; only = printed_only }
