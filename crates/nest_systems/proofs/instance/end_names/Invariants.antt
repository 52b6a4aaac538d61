use Rattle.std.proofs.Common.{◌≡◌, ◌++◌, drop}
use Rattle.std.specs.List.{flat_map}
use Rattle.nest_systems.specs.Parts.{end_names, name_of_term}
use Rattle.nest_systems.proofs.instance.end_names.Given as goal

abbrev pub invariant-loop-term : goal.invariant-loop-term
invariant-loop-term l = l.names ++ flat_map (name_of_term l.instance.terms) (drop l.term-index l.instance.chosen.ends) ≡ end_names l.instance
