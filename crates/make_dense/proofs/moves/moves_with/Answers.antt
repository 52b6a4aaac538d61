use Rattle.make_dense.proofs.Moved.{moves-made, moves-are}
use Rattle.make_dense.proofs.moves.moves_with.Goals as goal

pub returns-clause-fits : goal.returns-clause-fits
returns-clause-fits c =
    moves-made c.args.kernel.now c.args.statement c.args.nest.now c.args.piece _ _ _ c.as_slice-nests.ensures c.in_ok-pieces_with.ensures c.in_ok-only.ensures c.requires.shaped c.requires.found c.requires.fits

pub returns-clause-value : goal.returns-clause-value
returns-clause-value c = moves-are c.args.kernel.now c.args.statement c.args.piece _ _ _ c.as_slice-nests.ensures c.in_ok-pieces_with.ensures c.in_ok-only.ensures
