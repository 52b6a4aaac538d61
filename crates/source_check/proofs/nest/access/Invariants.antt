use Rattle.std.proofs.Common.{◌≡◌, ◌+◌, length}
use Rattle.std.specs.Prelude.{IsTrue}
use Rattle.std.specs.List.{list_all}
use Rattle.nest_core.specs.Forms.{has_vars}
use Rattle.source_check.proofs.nest.access.Given as goal

abbrev pub invariant-loop-e : goal.invariant-loop-e
invariant-loop-e l = record {
  forms : IsTrue (list_all (has_vars (length l.vars.names.now + length l.vars.reads.now)) l.at);
  count : length l.at ≡ l.e-index;
}
