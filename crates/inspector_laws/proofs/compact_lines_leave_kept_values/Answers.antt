use Rattle.inspector_laws.proofs.Compacting.{compact_leaves as law}
use Rattle.inspector_laws.proofs.compact_lines_leave_kept_values.Goals as goal

pub returns : goal.returns
returns c = record { law = law }
