use Rattle.std.proofs.Common.{◌≡◌, length}
use Rattle.std.specs.Prelude.{IsTrue}
use Rattle.std.specs.List.{list_all}
use Rattle.nest_core.specs.Forms.{has_vars}
use Rattle.datacopy.proofs.body.cell_of_copy.Given as goal

abbrev pub invariant-loop-dim : goal.invariant-loop-dim
invariant-loop-dim l = record { count : length l.at ≡ l.dim; over : IsTrue (list_all (has_vars l.vars) l.at) }
