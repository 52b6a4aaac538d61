use Rattle.std.proofs.Common.{◌≡◌, ◌+◌, drop}
use Rattle.make_dense.specs.Bounds.{is_bound}
use Rattle.make_dense.proofs.bounds.is_bound.Given as goal

abbrev pub invariant-loop-place : goal.invariant-loop-place
invariant-loop-place l = is_bound l.side l.level l.array l.row l.form (l.first + l.place) (drop l.place l.terms) ≡ is_bound l.side l.level l.array l.row l.form l.first l.terms
