use Rattle.std.proofs.Common.{◌≡◌, ◌<◌, ◌^◌, ◌++◌, ℕ, take}
use Rattle.std.specs.Prelude.{slice_index_or}
use Rattle.std.specs.List.{flat_map}
use Rattle.csr_data.specs.Printed.{number_text}
use Rattle.csr_data.proofs.print.push_numbers.Given as goal

abbrev pub invariant-loop-at : goal.invariant-loop-at
invariant-loop-at l = record {
  text : l.text.items ≡ l.initial.text.items ++ flat_map number_text (take l.at l.cells);
  numbers : (k : ℕ) → k < l.at → slice_index_or l.cells k 0 < 2 ^ 64;
}
