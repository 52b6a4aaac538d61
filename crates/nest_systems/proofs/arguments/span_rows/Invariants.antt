use Rattle.std.specs.Prelude.{IsTrue}
use Rattle.std.specs.List.{list_all}
use Rattle.nest_systems.specs.Owns.{row_has_vars}
use Rattle.nest_systems.proofs.arguments.span_rows.Given as goal

abbrev pub invariant-loop-place : goal.invariant-loop-place
invariant-loop-place l = IsTrue (list_all (row_has_vars l.vars) l.rows)
