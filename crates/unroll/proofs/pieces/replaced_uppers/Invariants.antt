use Rattle.std.proofs.Common.{◌≡◌, map, take}
use Rattle.affine_moves.specs.Change.{bound}
use Rattle.unroll.specs.Groups.{replaced}
use Rattle.unroll.proofs.pieces.replaced_uppers.Given as goal

abbrev pub invariant-loop-upper : goal.invariant-loop-upper
invariant-loop-upper l = l.rows ≡ map (λ u. bound l.own (replaced u l.at l.value l.none)) (take l.upper-index l.uppers)
