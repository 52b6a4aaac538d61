use Rattle.std.proofs.Common.{◌≡◌, ◌≤◌, ◌^◌, length}
use Rattle.datacopy.proofs.limits.box_extents.Given as goal

abbrev pub invariant-loop-side : goal.invariant-loop-side
invariant-loop-side l = record { count : length l.extents ≡ l.side-index; few : l.cells ≤ 2 ^ 20 }
