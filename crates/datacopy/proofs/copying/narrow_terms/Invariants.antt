use Rattle.std.proofs.Common.{◌≡◌, length}
use Rattle.std.specs.Prelude.{IsTrue}
use Rattle.std.specs.List.{list_all}
use Rattle.nest_core.specs.Shapes.{is_term_over}
use Rattle.datacopy.specs.Narrow.{new_vars}
use Rattle.datacopy.proofs.copying.narrow_terms.Given as goal

abbrev pub invariant-loop-place : goal.invariant-loop-place
invariant-loop-place l = record { count : length l.terms ≡ l.place-index; over : IsTrue (list_all (is_term_over (new_vars l.narrow)) l.terms) }
