use Rattle.std.proofs.Common.{◌≡◌, ◌++◌, drop, length}
use Rattle.unroll.specs.Bounds.{places_where, is_bound}
use Rattle.unroll.proofs.bounds.bound_places.Given as goal

abbrev pub invariant-loop-i : goal.invariant-loop-i
invariant-loop-i l = l.places ++ places_where (is_bound (length l.head.params) l.level l.nest) l.i (drop l.i l.nest.rows) ≡ places_where (is_bound (length l.head.params) l.level l.nest) 0 l.nest.rows
