use Rattle.std.proofs.Common.{sym}
use Rattle.chill_base.proofs.Each.{each-get}
use Rattle.affine_moves.specs.Placed.{IsPlaced}
use Rattle.affine_moves.proofs.Counted.{shaped-placed}
use Rattle.fuse_distribute.proofs.fuse.fuse_moves.Goals as goal

pub fuse_pair-requires-clause-first_small : goal.fuse_pair-requires-clause-first_small
fuse_pair-requires-clause-first_small c =
    (each-get IsPlaced c.args.kernel.now.nests c.args.first c.in-Some.first.now (shaped-placed c.args.kernel.now c.requires) (sym c.in-Some.ensures.value)).small

pub fuse_pair-requires-clause-second_small : goal.fuse_pair-requires-clause-second_small
fuse_pair-requires-clause-second_small c =
    (each-get IsPlaced c.args.kernel.now.nests c.args.second c.in-Some-get.second.now (shaped-placed c.args.kernel.now c.requires) (sym c.in-Some-get.ensures.value)).small
