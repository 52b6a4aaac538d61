use Rattle.std.proofs.Common.{◌≡◌, ◌≤◌, ◌++◌}
use Rattle.std.specs.Prelude.{reverse}
use Rattle.nest_tree.specs.declared.body.Body.{size-Body}
use Rattle.nest_systems.specs.Cells.{reads}
use Rattle.nest_systems.proofs.access.+push_reads_back.Given as goal

abbrev pub invariant-loop-rest : goal.invariant-loop-rest
invariant-loop-rest l = record { size : size-Body l.rest ≤ size-Body l.body; gathers : l.all.items ++ reverse (reads l.rest) ≡ l.initial.all.items ++ reverse (reads l.body) }
