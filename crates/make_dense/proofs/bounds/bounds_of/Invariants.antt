use Rattle.std.proofs.Common.{◌≡◌, ◌++◌, drop}
use Rattle.make_dense.specs.Bounds.{bounds_of}
use Rattle.make_dense.proofs.bounds.bounds_of.Given as goal

abbrev pub invariant-loop-row : goal.invariant-loop-row
invariant-loop-row l = l.bounds ++ bounds_of l.level (drop l.row-index l.rows) ≡ bounds_of l.level l.rows
