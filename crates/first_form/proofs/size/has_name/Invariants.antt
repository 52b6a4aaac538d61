use Rattle.std.proofs.Common.{◌≡◌, length}
use Rattle.first_form.specs.Sizes.{has_name}
use Rattle.first_form.proofs.size.has_name.Given as goal

abbrev pub invariant-names : goal.invariant-names
invariant-names l = has_name l.names l.name ≡ has_name l.initial.names l.name

abbrev pub decreases-names : goal.decreases-names
decreases-names l = length l.names
