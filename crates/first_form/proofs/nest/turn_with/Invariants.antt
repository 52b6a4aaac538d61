use Rattle.std.proofs.Common.{◌≡◌, length}
use Rattle.first_form.specs.Nests.{turn_with}
use Rattle.first_form.proofs.nest.turn_with.Given as goal

abbrev pub invariant-turns : goal.invariant-turns
invariant-turns l = turn_with l.turns l.name ≡ turn_with l.initial.turns l.name

abbrev pub decreases-turns : goal.decreases-turns
decreases-turns l = length l.turns
