use Rattle.std.proofs.Common.{◌≡◌, length, map, take}
use Rattle.nest_systems.specs.Seating.{seat}
use Rattle.nest_systems.proofs.seating.term_seats.Given as goal

abbrev pub invariant-loop-same : goal.invariant-loop-same
invariant-loop-same l = record {
  count : length l.terms ≡ l.same-index;
  value : l.terms ≡ map (seat l.instance l.places l.ends) (take l.same-index l.instance.chosen.same);
}
