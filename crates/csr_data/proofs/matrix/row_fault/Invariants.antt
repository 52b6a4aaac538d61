use Rattle.std.proofs.Common.{◌≡◌, ◌-◌, drop}
use Rattle.csr_data.specs.Matrices.{index_broken, rows_broken}
use Rattle.csr_data.proofs.matrix.row_fault.Given as goal

abbrev pub invariant-loop-end : goal.invariant-loop-end
invariant-loop-end l = rows_broken l.count (l.end - 1) l.from (drop l.end l.index) ≡ index_broken l.count l.index
