use Rattle.std.proofs.Common.{◌≡◌, drop}
use Rattle.std.specs.Prelude.{IsTrue, is_some}
use Rattle.c_run.specs.Arrays.{table_of}
use Rattle.c_run.proofs.arrays.find_table.Given as goal

abbrev pub invariant-loop-table : goal.invariant-loop-table
invariant-loop-table l = record {
  there : IsTrue (is_some (table_of (drop l.table-index l.tables) l.name));
  same : table_of (drop l.table-index l.tables) l.name ≡ table_of l.tables l.name;
}
