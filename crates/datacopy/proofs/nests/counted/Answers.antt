use Rattle.std.proofs.Common.{ap, ◌∙◌}
use Rattle.nest_core.specs.Order.{numbered}
use Rattle.nest_core.proofs.Ordered.{has_positions}
use Rattle.datacopy.proofs.Placed.{both-shaped, both-counted}
use Rattle.datacopy.proofs.nests.counted.Goals as goal

pub number-requires : goal.number-requires
number-requires c =
    let head = c.args.head.now in
    rw c.in_ok-new.ensures (has_positions head _ (both-shaped head c.args.nests.now c.args.statement c.args.copying c.args.reading c.requires.nests c.requires.copying c.requires.reading))

pub returns-clause-are : goal.returns-clause-are
returns-clause-are c = c.from_vec.ensures ∙ (c.in_ok-number.ensures ∙ ap numbered c.in_ok-new.ensures)

pub returns-clause-counted : goal.returns-clause-counted
returns-clause-counted c =
    both-counted c.args.head.now c.args.nests.now c.args.statement c.args.copying c.args.reading _ c.requires.statement c.requires.nests c.requires.copying c.requires.reading
    (c.from_vec.ensures ∙ (c.in_ok-number.ensures ∙ ap numbered c.in_ok-new.ensures))
