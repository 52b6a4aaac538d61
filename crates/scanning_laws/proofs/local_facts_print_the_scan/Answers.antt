use Rattle.scanning_laws.proofs.Laws.{local_facts as law}
use Rattle.scanning_laws.proofs.local_facts_print_the_scan.Goals as goal

pub returns : goal.returns
returns c = law
