use Rattle.c_tokens.specs.declared.pieces.Margin.TheVariants as m
use Rattle.c_tokens.specs.Pieces.{tokens_of}
use Rattle.read_back.proofs.Numbers.{number_lexes}
use Rattle.read_back.proofs.number_reads_back.Goals as goal

pub returns : goal.returns
unfolding tokens_of
returns c = λ n rest small e. number_lexes m.Start n rest small e
