use Rattle.std.proofs.Common.{◌≡◌, ◌+◌, length, IsTrue}
use Rattle.std.specs.List.{list_all}
use Rattle.nest_core.specs.Forms.{has_vars}
use Rattle.scan_forms.proofs.local.local_forms.Given as goal

abbrev pub invariant-loop-form : goal.invariant-loop-form
invariant-loop-form l = IsTrue (list_all (has_vars (l.params + 8 + length l.chosen)) l.local) × (length l.local ≡ l.form-index)
