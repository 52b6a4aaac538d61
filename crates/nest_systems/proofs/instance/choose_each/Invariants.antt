use Rattle.std.proofs.Common.{◌≡◌, ◌+◌, length}
use Rattle.nest_systems.specs.Chosen.{IsChosen}
use Rattle.nest_systems.specs.Choosing.{and_more}
use Rattle.nest_systems.proofs.instance.choose_each.Given as goal

abbrev pub invariant-loop : goal.invariant-loop
invariant-loop l = record {
  kept : IsChosen l.initial.chosen.first (length l.initial.chosen.same + l.counter) l.chosen;
  value : l.chosen ≡ and_more l.counter l.initial.chosen;
}
