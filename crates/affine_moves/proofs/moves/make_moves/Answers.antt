use Rattle.affine_moves.proofs.Fitting.{moves_of-fits}
use Rattle.affine_moves.proofs.moves.make_moves.Goals as goal

pub returns-clause-fits : goal.returns-clause-fits
returns-clause-fits c =
    let e = rw (c.as_slice.ensures, c.as_slice-nests.ensures) at c.in_ok-pieces.ensures in
    rw e (moves_of-fits c.args.kernel.now c.args.change.now c.args.applies c.requires.shaped c.requires.suits)
