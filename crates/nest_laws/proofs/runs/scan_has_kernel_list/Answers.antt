use Rattle.nest_laws.proofs.Running.{scan as law}
use Rattle.nest_laws.proofs.runs.scan_has_kernel_list.Goals as goal

pub returns : goal.returns
returns c = law
