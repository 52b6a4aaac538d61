use Rattle.std.proofs.Common.{length}
use Rattle.std.specs.Prelude.{IsTrue}
use Rattle.std.specs.List.{list_all}
use Rattle.nest_systems.specs.Chosen.{is_within}
use Rattle.nest_systems.proofs.direct.direct_rows.Given as goal

abbrev pub invariant-loop-place : goal.invariant-loop-place
invariant-loop-place l = IsTrue (list_all (is_within (length l.nest.rows)) l.places)
