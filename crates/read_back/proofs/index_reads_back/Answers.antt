use Rattle.read_back.proofs.Index.{index_reads}
use Rattle.read_back.proofs.index_reads_back.Goals as goal

pub returns : goal.returns
returns c = λ b e rest h ends. index_reads h rest ends
