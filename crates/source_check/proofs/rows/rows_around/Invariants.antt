use Rattle.std.proofs.Common.{◌≡◌, ◌+◌, drop, length}
use Rattle.std.specs.Prelude.{IsTrue}
use Rattle.std.specs.List.{list_all}
use Rattle.nest_core.specs.Shapes.{is_row_over}
use Rattle.source_limits.specs.Sites.{count_loops}
use Rattle.source_check.proofs.rows.rows_around.Given as goal

abbrev pub invariant-loop-one : goal.invariant-loop-one
invariant-loop-one l = record {
  levels : l.levels + count_loops (drop l.one-index l.around) ≡ count_loops l.around;
  rows : IsTrue (list_all (is_row_over (length l.vars.names.now + length l.vars.reads.now) (count_loops l.around)) l.rows);
}
