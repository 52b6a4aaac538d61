use Rattle.std.proofs.Common.{◌≡◌, drop}
use Rattle.csr_data.specs.Values.{array_of}
use Rattle.c_run.proofs.arrays.Arrays.find.Given as goal

abbrev pub invariant-loop-table : goal.invariant-loop-table
invariant-loop-table l = array_of (drop l.table-index l.self.tables.items) l.name ≡ array_of l.self.tables.items l.name
