use Rattle.std.proofs.Common.{◌≡◌, drop}
use Rattle.nest_systems.specs.Ranges as spec
use Rattle.nest_systems.proofs.range.made_array_argument_span.Given as goal

abbrev pub invariant-loop-it : goal.invariant-loop-it
invariant-loop-it l = spec.said_of_made l.head.matrices (drop l.it-index l.made) l.array (λ m what. spec.made_argument_span l.head.params m what l.place) ≡ spec.said_of_made l.head.matrices l.made l.array (λ m what. spec.made_argument_span l.head.params m what l.place)
