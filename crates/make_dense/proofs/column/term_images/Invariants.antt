use Rattle.std.proofs.Common.{◌≡◌, ◌+◌, ◌++◌, drop}
use Rattle.make_dense.specs.Column.{term_images}
use Rattle.make_dense.proofs.column.term_images.Given as goal

abbrev pub invariant-loop-place : goal.invariant-loop-place
invariant-loop-place l = l.forms ++ term_images l.column l.dense l.entry l.vars (l.first + l.place) (drop l.place l.terms) ≡ term_images l.column l.dense l.entry l.vars l.first l.terms
