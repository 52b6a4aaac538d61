use Rattle.std.proofs.Common.{length}
use Rattle.nest_core.specs.Shapes.{vars_of}
use Rattle.unroll.proofs.Widths.{take-over}
use Rattle.unroll.proofs.moves.make_rest.Goals as goal

pub rest_piece-requires-clause-earlier : goal.rest_piece-requires-clause-earlier
rest_piece-requires-clause-earlier c =
    rw c.as_slice.ensures (take-over (vars_of (length c.args.head.now.params) c.args.nest.now) c.args.missed c.args.bounds.now.uppers c.requires.bounds.uppers)
