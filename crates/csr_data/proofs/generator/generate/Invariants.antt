use Rattle.std.proofs.Common.{◌≡◌, ◌+◌, ◌*◌, ◌≤◌, length}
use Rattle.csr_data.proofs.generator.generate.Given as goal

abbrev pub invariant-loop-row : goal.invariant-loop-row
invariant-loop-row l = record {
  index : length l.entries.index ≡ l._row + 1;
  col : length l.entries.col ≤ 256 * l._row;
  value : length l.entries.value ≤ 256 * l._row;
}

abbrev pub invariant-loop-cell : goal.invariant-loop-cell
invariant-loop-cell l = length l.x ≡ l._cell
