use Rattle.affine_moves.proofs.Suiting.{skew-suits}
use Rattle.affine_moves.proofs.skew.skew_at.Goals as goal

pub make_moves-requires-clause-suits : goal.make_moves-requires-clause-suits
make_moves-requires-clause-suits c =
    let a = rw c.as_slice.ensures at c.in_ok-applies.ensures in
    rw (c.in_ok-change.ensures, a) (skew-suits c.args.kernel.now.head _ c.args.nest.now c.args.level c.args.coefs.now c.requires.nests c.in_default.ensures)
