use Rattle.std.proofs.Common.{◌≡◌, ◌++◌, drop, length}
use Rattle.unroll.specs.Moves.{rest_pieces}
use Rattle.unroll.proofs.moves.rest_pieces.Given as goal

abbrev pub invariant-loop-missed : goal.invariant-loop-missed
invariant-loop-missed l =
    l.pieces ++ rest_pieces (length l.head.params) l.plan.level l.plan.factor l.nest l.bounds l.missed (drop l.missed l.bounds.uppers)
    ≡ rest_pieces (length l.head.params) l.plan.level l.plan.factor l.nest l.bounds 0 l.bounds.uppers
