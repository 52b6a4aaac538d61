use Rattle.std.proofs.Common.{◌≡◌, ◌-◌, ◌+◌, ◌≤◌, ◌++◌, ℕ, List, drop, length}
use Rattle.csr_data.specs.Reading.{rest_of}
use Rattle.csr_data.proofs.parts.Held.take_all.Given as goal

abbrev pub invariant-loop-at : goal.invariant-loop-at
invariant-loop-at l = record {
  within : l.at ≤ length l.piece;
  read : l.self.read ≡ l.initial.self.read + l.at;
  program : l.self.program ≡ l.initial.self.program;
  told : (more : List ℕ) → rest_of l.initial.self (l.piece ++ more) ≡ rest_of l.self (drop l.at l.piece ++ more);
}

abbrev pub decreases-loop-at : goal.decreases-loop-at
decreases-loop-at l = length l.piece - l.at
