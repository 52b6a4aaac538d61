use Rattle.c_tokens.specs.declared.pieces.Margin.TheVariants as m
use Rattle.c_tokens.specs.Pieces.{tokens_of}
use Rattle.read_back.proofs.Runs.{name_lexes}
use Rattle.read_back.proofs.name_reads_back.Goals as goal

pub returns : goal.returns
unfolding tokens_of
returns c = λ x rest n e. name_lexes m.Start x rest n e
