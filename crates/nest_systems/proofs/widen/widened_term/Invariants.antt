use Rattle.std.proofs.Common.{◌≡◌, length, map, take}
use Rattle.std.specs.Prelude.{IsTrue}
use Rattle.std.specs.List.{list_all}
use Rattle.nest_core.specs.Forms.{has_vars}
use Rattle.nest_systems.specs.Begun.{widened}
use Rattle.nest_systems.proofs.widen.widened_term.Given as goal

abbrev pub invariant-loop-form : goal.invariant-loop-form
invariant-loop-form l = record { value : l.at ≡ map (widened l.vars) (take l.form-index l.term.at); count : length l.at ≡ l.form-index; widths : IsTrue (list_all (has_vars l.vars) l.at) }
