use Rattle.depend_test.proofs.Moving.{made-length}
use Rattle.depend_test.proofs.side.moved_of.Goals as goal

pub make_own_sides-requires-clause-same : goal.make_own_sides-requires-clause-same
make_own_sides-requires-clause-same c = made-length _ c.args.pieces.now c.args.nests.now c.requires.makes
