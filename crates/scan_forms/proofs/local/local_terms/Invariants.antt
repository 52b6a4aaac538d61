use Rattle.std.proofs.Common.{◌≡◌, ◌+◌, length, IsTrue}
use Rattle.std.specs.List.{list_all}
use Rattle.nest_core.specs.Shapes.{is_term_over}
use Rattle.scan_forms.proofs.local.local_terms.Given as goal

abbrev pub invariant-loop-at : goal.invariant-loop-at
invariant-loop-at l = IsTrue (list_all (is_term_over (l.params + 8 + length l.chosen)) l.terms) × (length l.terms ≡ l.at-index)
