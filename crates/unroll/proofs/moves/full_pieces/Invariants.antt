use Rattle.std.proofs.Common.{◌≡◌, map, length}
use Rattle.std.specs.List.{range_with_len}
use Rattle.unroll.specs.Moves.{copy_of}
use Rattle.unroll.proofs.moves.full_pieces.Given as goal

abbrev pub invariant-loop-copy : goal.invariant-loop-copy
invariant-loop-copy l = l.pieces ≡ map (copy_of (length l.head.params) l.plan.level l.plan.factor l.plan.count l.nest l.bounds) (range_with_len 0 l.copy)
