use Rattle.std.proofs.Common.{◌≡◌, ◌+◌, ◌≤◌, ◌*◌, ◌^◌, drop, unsigned_abs}
use Rattle.nest_systems.specs.Placing.{small_total, numbers_there}
use Rattle.nest_systems.proofs.Totals.{onward}
use Rattle.nest_systems.proofs.alike.sum_there.Given as goal

abbrev pub invariant-loop-i : goal.invariant-loop-i
invariant-loop-i l = record {
  room : unsigned_abs l.total ≤ l.i * 2 ^ 126;
  sum : onward l.total (numbers_there (l.first + l.i) (drop l.i l.there) l.var l.coefs) ≡ small_total (numbers_there l.first l.there l.var l.coefs);
}
