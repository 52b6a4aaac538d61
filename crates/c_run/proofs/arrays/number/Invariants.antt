use Rattle.std.proofs.Common.{◌≡◌, ◌+◌, drop}
use Rattle.std.specs.Prelude.{IsTrue, is_some}
use Rattle.c_run.specs.Arrays.{table_of, number_in}
use Rattle.c_run.proofs.arrays.number.Given as goal

abbrev pub invariant-loop-table : goal.invariant-loop-table
invariant-loop-table l = record {
  there : IsTrue (is_some (table_of (drop l.table-index l.tables) l.name));
  same : l.number + number_in (drop l.table-index l.tables) l.name ≡ number_in l.tables l.name;
  count : l.number ≡ l.table-index;
}
