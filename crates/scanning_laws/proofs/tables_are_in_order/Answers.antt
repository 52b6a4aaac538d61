use Rattle.scanning_laws.proofs.Tables.{kernel_table as law}
use Rattle.scanning_laws.proofs.tables_are_in_order.Goals as goal

pub returns : goal.returns
returns c = law
