use Rattle.input_laws.proofs.CopiedText.{worked_text}
use Rattle.input_laws.proofs.worked_text.Goals as goal

pub returns : goal.returns
returns c = worked_text
