use Rattle.scanning_laws.proofs.Fused.{fused_text as law}
use Rattle.scanning_laws.proofs.worked_fused.Goals as goal

pub returns : goal.returns
returns c = law
