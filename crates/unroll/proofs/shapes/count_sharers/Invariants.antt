use Rattle.std.proofs.Common.{◌≡◌, ◌≤◌, drop}
use Rattle.unroll.specs.Moves.{count_from}
use Rattle.unroll.proofs.shapes.count_sharers.Given as goal

abbrev pub invariant-loop-other : goal.invariant-loop-other
invariant-loop-other l = record {
  rest : count_from l.found l.level l.nest (drop l.other-index l.nests) ≡ count_from 0 l.level l.nest l.nests;
  small : l.found ≤ l.other-index;
}
