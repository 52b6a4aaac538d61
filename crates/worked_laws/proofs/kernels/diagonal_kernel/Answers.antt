use Rattle.worked_laws.proofs.Diagonal.{diagonal_list as law}
use Rattle.worked_laws.proofs.kernels.diagonal_kernel.Goals as goal

pub returns : goal.returns
returns c = law
