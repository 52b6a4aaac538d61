use Rattle.std.proofs.Common.{◌+◌, length}
use Rattle.std.specs.Prelude.{IsTrue}
use Rattle.std.specs.List.{list_all}
use Rattle.nest_core.specs.Forms.{has_vars}
use Rattle.source_check.proofs.nest.subscript_forms.Given as goal

abbrev pub invariant-loop-cell : goal.invariant-loop-cell
invariant-loop-cell l = IsTrue (list_all (has_vars (length l.vars.names.now + length l.vars.reads.now)) l.forms)
