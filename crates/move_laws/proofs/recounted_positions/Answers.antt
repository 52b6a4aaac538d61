use Rattle.move_laws.proofs.Worked.{recounted_positions as law}
use Rattle.move_laws.proofs.recounted_positions.Goals as goal

pub returns : goal.returns
returns c = law
