use Rattle.nest_laws.proofs.Laws.{readings as law}
use Rattle.nest_laws.proofs.kernels.terms_have_their_readings.Goals as goal

pub returns : goal.returns
returns c = law
