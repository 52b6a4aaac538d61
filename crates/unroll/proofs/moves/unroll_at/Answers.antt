use Rattle.std.proofs.Common.{sym, ◌∙◌}
use Rattle.unroll.proofs.Found.{bounds_of-fits}
use Rattle.unroll.proofs.moves.unroll_at.Goals as goal

pub unroll_by-requires-clause-mine : goal.unroll_by-requires-clause-mine
unroll_by-requires-clause-mine c =
    bounds_of-fits c.args.kernel.now.head c.args.level c.args.nest.now c.requires.nest c.in-Some-2.mine (sym c.in-Some-2.is ∙ c.in_ok-mine.ensures)
