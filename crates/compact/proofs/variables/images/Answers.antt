use Rattle.std.proofs.Common.{refl}
use Rattle.nest_systems.proofs.Mapping.{length-mapped}
use Rattle.compact.proofs.variables.images.Goals as goal

pub returns-clause-images : goal.returns-clause-images
returns-clause-images c = record { params = refl; vars = c.new_vars.ensures; count = length-mapped _ _ _ c.in_ok-image_forms.ensures }
