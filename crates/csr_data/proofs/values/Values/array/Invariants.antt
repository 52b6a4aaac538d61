use Rattle.std.proofs.Common.{◌≡◌, drop}
use Rattle.csr_data.specs.Values.{array_of, arrays_of}
use Rattle.csr_data.proofs.values.Values.array.Given as goal

abbrev pub invariant-loop-array : goal.invariant-loop-array
invariant-loop-array l = array_of (drop l.array-index (arrays_of l.self)) l.name ≡ array_of (arrays_of l.self) l.name
