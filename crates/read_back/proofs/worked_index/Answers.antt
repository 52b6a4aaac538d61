use Rattle.read_back.proofs.Examples.{nested_text, nested_fits, nested_reads}
use Rattle.read_back.proofs.worked_index.Goals as goal

pub returns : goal.returns
returns c = record { text = nested_text; fits = nested_fits; reads = nested_reads }
