use Rattle.read_back.proofs.Whole.{same_text}
use Rattle.read_back.proofs.printed_text_tells_program.Goals as goal

pub returns : goal.returns
returns c = same_text
