use Rattle.std.proofs.Common.{◌≡◌, ◌+◌, false}
use Rattle.affine_moves.specs.Moves.{any_below}
use Rattle.make_dense.specs.Bounds.{are_entries}
use Rattle.make_dense.proofs.bounds.have_row.Given as goal

abbrev pub invariant-loop-place : goal.invariant-loop-place
invariant-loop-place l = any_below (λ p. are_entries l.first l.terms (l.params + l.before) l.array l.low l.high (l.params + p)) l.place ≡ false
