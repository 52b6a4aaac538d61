use Rattle.std.proofs.Common.{◌≡◌, length}
use Rattle.std.specs.Prelude.{IsTrue}
use Rattle.std.specs.List.{list_all}
use Rattle.nest_core.specs.Forms.{has_vars}
use Rattle.datacopy.specs.Narrow.{new_vars}
use Rattle.datacopy.proofs.copying.narrow_term.Given as goal

abbrev pub invariant-loop-form : goal.invariant-loop-form
invariant-loop-form l = record { count : length l.at ≡ l.form-index; over : IsTrue (list_all (has_vars (new_vars l.narrow)) l.at) }
