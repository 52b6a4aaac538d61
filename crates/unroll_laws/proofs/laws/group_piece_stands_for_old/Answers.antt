use Rattle.unroll_laws.proofs.Unrolled.{stands as law}
use Rattle.unroll_laws.proofs.laws.group_piece_stands_for_old.Goals as goal

pub returns : goal.returns
returns c = law
