use Rattle.std.proofs.Common.{◌≡◌, [], drop}
use Rattle.nest_systems.specs.Choosing.{value_counts}
use Rattle.nest_systems.proofs.needs.value_counts.Given as goal

abbrev pub invariant-loop-term : goal.invariant-loop-term
invariant-loop-term l = value_counts l.head l.made l.terms (drop l.term-index l.order) l.names ≡ value_counts l.head l.made l.terms l.order []
