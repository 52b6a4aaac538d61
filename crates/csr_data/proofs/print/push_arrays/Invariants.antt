use Rattle.std.proofs.Common.{◌≡◌, ◌++◌, take}
use Rattle.std.specs.List.{flat_map}
use Rattle.csr_data.specs.Printed.{table_text}
use Rattle.csr_data.proofs.print.push_arrays.Given as goal

abbrev pub invariant-loop-array : goal.invariant-loop-array
invariant-loop-array l = l.text.items ≡ l.initial.text.items ++ flat_map table_text (take l.array-index l.arrays)
