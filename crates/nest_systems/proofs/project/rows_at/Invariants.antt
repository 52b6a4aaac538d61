use Rattle.std.proofs.Common.{◌+◌, length}
use Rattle.std.specs.Prelude.{IsTrue}
use Rattle.std.specs.List.{list_all}
use Rattle.nest_systems.specs.Owns.{is_left_over}
use Rattle.nest_systems.proofs.project.rows_at.Given as goal

abbrev pub invariant-loop-row : goal.invariant-loop-row
invariant-loop-row l = IsTrue (list_all (is_left_over (l.own.params + l.own.levels + length l.own.terms) l.level) l.rows)
