use Rattle.std.proofs.Common.{◌≡◌, ◌+◌, ◌*◌, length, take}
use Rattle.std.specs.List.{range_with_len}
use Rattle.nest_systems.specs.Choosing.{over_terms, over_forms, meet_term}
use Rattle.nest_systems.specs.Chosen.{IsChosen}
use Rattle.nest_systems.proofs.choose.+meet.Given as goal

abbrev pub decreases-meet_term : goal.decreases-meet_term
decreases-meet_term l = 3 * l.deep

abbrev pub decreases-meet_forms : goal.decreases-meet_forms
decreases-meet_forms l = 3 * l.deep + 2

abbrev pub decreases-meet_form : goal.decreases-meet_form
decreases-meet_form l = 3 * l.deep + 1

abbrev pub invariant-meet_form-loop-i : goal.invariant-meet_form-loop-i
invariant-meet_form-loop-i l = record {
  kept : IsChosen l.initial.chosen.first (length l.terms) l.chosen;
  value : l.chosen ≡ over_terms (meet_term l.terms l.deep) l.form (range_with_len 0 l.i) l.initial.chosen;
}

abbrev pub invariant-meet_forms-loop-form : goal.invariant-meet_forms-loop-form
invariant-meet_forms-loop-form l = record {
  kept : IsChosen l.initial.chosen.first (length l.terms) l.chosen;
  value : l.chosen ≡ over_forms (meet_term l.terms l.deep) (length l.terms) (take l.form-index l.forms) l.initial.chosen;
}
