use Rattle.std.proofs.Common.{◌≡◌, ◌-◌, ◌+◌, ◌≤◌, length}
use Rattle.csr_data.proofs.generator.draw_row.Given as goal

abbrev pub invariant-loop-column : goal.invariant-loop-column
invariant-loop-column l = record {
  few : l.count ≤ 256;
  col : length l.entries.col ≡ length l.initial.entries.col + l.count;
  value : length l.entries.value ≡ length l.initial.entries.value + l.count;
  index : length l.entries.index ≡ length l.initial.entries.index;
}

abbrev pub decreases-loop-column : goal.decreases-loop-column
decreases-loop-column l = 256 - l.count
