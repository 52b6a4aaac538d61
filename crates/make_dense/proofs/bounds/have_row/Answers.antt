use Rattle.std.proofs.Common.{◌+◌}
use Rattle.affine_moves.proofs.Orders.{any-here}
use Rattle.make_dense.specs.Bounds.{are_entries, have_row}
use Rattle.make_dense.proofs.bounds.have_row.Goals as goal

pub returns-then-are_entries : goal.returns-then-are_entries
unfolding have_row
returns-then-are_entries c =
    any-here (λ p. are_entries c.args.first c.args.terms.now (c.args.params + c.args.before) c.args.array c.args.low.now c.args.high.now (c.args.params + p)) c.args.before c.loop-place.place c.loop-place-test.true c.if-are_entries.ensures
