use Rattle.std.proofs.Common.{ℕ, ◌+◌, ◌≤◌, length}
use Rattle.std.specs.Prelude.{IsTrue}
use Rattle.std.specs.List.{list_all}
use Rattle.nest_core.specs.Shapes.{is_row_over}
use Rattle.source_check.proofs.rows.push_bound.Given as goal

abbrev pub invariant-loop-operand : goal.invariant-loop-operand
invariant-loop-operand l =
    (d : ℕ) → l.own.level ≤ d → IsTrue (list_all (is_row_over (length l.vars.names.now + length l.vars.reads.now) d) l.initial.rows)
    → IsTrue (list_all (is_row_over (length l.vars.names.now + length l.vars.reads.now) d) l.rows)
