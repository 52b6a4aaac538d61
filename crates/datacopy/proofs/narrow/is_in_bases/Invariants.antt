use Rattle.std.proofs.Common.{◌≡◌, drop, length}
use Rattle.datacopy.specs.Narrow.{is_in_bases}
use Rattle.datacopy.proofs.narrow.is_in_bases.Given as goal

abbrev pub invariant-loop-side : goal.invariant-loop-side
invariant-loop-side l = is_in_bases (length l.head.params) l.nest l.term (drop l.side-index l.sides) ≡ is_in_bases (length l.head.params) l.nest l.term l.sides
