use Rattle.std.proofs.Common.{◌≡◌, ◌++◌, drop}
use Rattle.std.specs.List.{flat_map}
use Rattle.nest_systems.specs.Parts.{rows_of_term}
use Rattle.nest_systems.proofs.instance.value_rows.Given as goal

abbrev pub invariant-loop-term : goal.invariant-loop-term
invariant-loop-term l = l.rows ++ flat_map (rows_of_term l.head l.made l.first l.terms) (drop l.term-index l.order) ≡ flat_map (rows_of_term l.head l.made l.first l.terms) l.order
