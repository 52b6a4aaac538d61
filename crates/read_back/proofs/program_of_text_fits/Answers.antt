use Rattle.read_back.proofs.Fitting.{program_fits}
use Rattle.read_back.proofs.program_of_text_fits.Goals as goal

pub returns : goal.returns
returns c = program_fits
