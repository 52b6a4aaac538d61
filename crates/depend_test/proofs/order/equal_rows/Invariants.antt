use Rattle.std.proofs.Common.{◌≡◌}
use Rattle.std.specs.Prelude.{IsTrue}
use Rattle.std.specs.List.{list_all}
use Rattle.nest_systems.specs.Owns.{row_has_vars}
use Rattle.depend_test.specs.Orders as spec
use Rattle.depend_test.proofs.order.equal_rows.Given as goal

abbrev pub invariant-loop-place : goal.invariant-loop-place
invariant-loop-place l = record {
  width : IsTrue (list_all (row_has_vars l.vars) l.rows);
  value : l.rows ≡ spec.equal_rows l.vars l.place l.a l.b;
}
