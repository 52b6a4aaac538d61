-- Systems with rows behind their own.
use Rattle.std.specs.Prelude.{List, ◌++◌}
use Rattle.int_rows.specs.Systems.{Rows, with_rows}
use Rattle.int_rows.specs.declared.row.Row.{Row}

-- a system with further rows behind its own
abbrev pub extended : Rows → List Row → Rows
extended s rows = with_rows s (s.rows ++ rows)
