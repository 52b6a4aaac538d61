use Rattle.first_laws.proofs.Programs.{same_signature}
use Rattle.first_laws.proofs.written_program_has_same_signature.Goals as goal

pub returns : goal.returns
returns c = same_signature
