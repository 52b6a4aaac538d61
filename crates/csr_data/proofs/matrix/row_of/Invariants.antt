use Rattle.std.proofs.Common.{◌≡◌, ◌-◌, ◌+◌, ◌≤◌, drop, length}
use Rattle.csr_data.specs.Matrices.{row_of}
use Rattle.csr_data.proofs.matrix.row_of.Given as goal

abbrev pub invariant-loop-row : goal.invariant-loop-row
invariant-loop-row l = record {
  some : 1 ≤ l.row;
  same : row_of (drop l.row l.index) l.place + (l.row - 1) ≡ row_of (drop 1 l.index) l.place;
}

abbrev pub decreases-loop-row : goal.decreases-loop-row
decreases-loop-row l = length l.index - l.row
