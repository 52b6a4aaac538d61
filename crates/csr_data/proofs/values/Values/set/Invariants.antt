use Rattle.std.proofs.Common.{◌≡◌, ◌-◌, ◌++◌, drop, take, length}
use Rattle.csr_data.specs.Values.{array_of, arrays_of, has_cell, with_cell}
use Rattle.csr_data.proofs.values.Values.set.Given as goal

abbrev pub invariant-loop-number : goal.invariant-loop-number
invariant-loop-number l = record {
  there : has_cell (array_of (drop l.number (arrays_of l.self)) l.name) l.at;
  passed : take l.number (arrays_of l.self) ++ with_cell (drop l.number (arrays_of l.self)) l.name l.at l.value ≡ with_cell (arrays_of l.self) l.name l.at l.value;
}

abbrev pub decreases-loop-number : goal.decreases-loop-number
decreases-loop-number l = length (arrays_of l.self) - l.number
