use Rattle.read_back.proofs.Data.{data_reads}
use Rattle.read_back.proofs.data_reads_back.Goals as goal

pub returns : goal.returns
returns c = λ b e rest h ends. data_reads h rest ends
