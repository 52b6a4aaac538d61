use Rattle.unroll.proofs.Found.{lower-over}
use Rattle.unroll.proofs.bounds.bounds_of.Goals as goal

pub is_plain-requires-clause-lower : goal.is_plain-requires-clause-lower
is_plain-requires-clause-lower c =
    lower-over c.args.head.now c.args.level c.args.nest.now c.requires.shaped c.in-Some.lower (rw c.in_ok-lower_forms.ensures at c.in-Some.ensures)
