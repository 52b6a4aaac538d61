use Rattle.first_laws.proofs.Programs.{runs_alike}
use Rattle.first_laws.proofs.Quiet.{is_fine}
use Rattle.first_laws.proofs.first_form_has_no_fault.Goals as goal

pub returns : goal.returns
returns c = record { source = is_fine; written = λ p q i h v. (runs_alike p q i h).fine (is_fine p q i h v) }
