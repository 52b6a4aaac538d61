use Rattle.scan_laws.proofs.Printing.{printed_list as law}
use Rattle.scan_laws.proofs.scans.printed_executor_has_kernel_list.Goals as goal

pub returns : goal.returns
returns c = law
