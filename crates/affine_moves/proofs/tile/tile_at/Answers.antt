use Rattle.affine_moves.proofs.Suiting.{tile-suits}
use Rattle.affine_moves.proofs.tile.tile_at.Goals as goal

pub make_moves-requires-clause-suits : goal.make_moves-requires-clause-suits
make_moves-requires-clause-suits c =
    let e = rw c.as_slice-nests.ensures at c.in_default.ensures in
    let a = rw c.as_slice-nests.ensures at c.in_ok-applies.ensures in
    rw a (tile-suits c.args.kernel.now.head _ c.args.nest.now c.args.level c.args.size c.args.outer c.requires.nests e)
