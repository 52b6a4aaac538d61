use Rattle.std.proofs.Common.{◌≡◌, ◌≤◌, ◌+◌, ◌*◌, length}
use Rattle.scan_forms.proofs.origin.+placing.Given as goal

abbrev pub decreases-place_to : goal.decreases-place_to
decreases-place_to l = 4 * l.deep + 3

abbrev pub decreases-place_terms : goal.decreases-place_terms
decreases-place_terms l = 4 * l.deep + 2

abbrev pub decreases-place_each : goal.decreases-place_each
decreases-place_each l = 4 * l.deep + 1

abbrev pub decreases-place_term : goal.decreases-place_term
decreases-place_term l = 4 * l.deep + 4

abbrev pub invariant-place_each-loop-i : goal.invariant-place_each-loop-i
invariant-place_each-loop-i l = length l.initial.table.reads ≤ length l.table.reads

abbrev pub invariant-place_term-loop-form : goal.invariant-place_term-loop-form
invariant-place_term-loop-form l = (length l.initial.table.reads ≤ length l.table.reads) × (length l.at ≡ l.form-index)
