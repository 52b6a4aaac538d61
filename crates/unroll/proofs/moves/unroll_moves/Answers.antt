use Rattle.std.proofs.Common.{sym}
use Rattle.chill_base.proofs.Each.{each-get}
use Rattle.affine_moves.specs.Placed.{IsPlaced}
use Rattle.affine_moves.proofs.Counted.{shaped-placed}
use Rattle.unroll.proofs.moves.unroll_moves.Goals as goal

pub unroll_at-requires-clause-small : goal.unroll_at-requires-clause-small
unroll_at-requires-clause-small c =
    (each-get IsPlaced c.args.kernel.now.nests c.args.statement c.in-Some.nest.now (shaped-placed c.args.kernel.now c.requires) (sym c.in-Some.ensures.value)).small
