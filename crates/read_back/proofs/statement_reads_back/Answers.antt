use Rattle.c_tokens.specs.declared.pieces.Margin.TheVariants as m
use Rattle.c_tokens.specs.Pieces.{tokens_of}
use Rattle.read_back.proofs.Statements.{statement_reads}
use Rattle.read_back.proofs.statement_reads_back.Goals as goal

pub returns : goal.returns
unfolding tokens_of
returns c = λ section b l g x indent rest h blanks. statement_reads h m.Start indent rest blanks
