use Rattle.std.proofs.Common.{◌≡◌, length, map, take}
use Rattle.nest_systems.specs.Choosing.{over_forms, meet_term, form_of}
use Rattle.nest_systems.specs.Chosen.{IsChosen}
use Rattle.nest_systems.proofs.choose.meet_rows.Given as goal

abbrev pub invariant-loop-row : goal.invariant-loop-row
invariant-loop-row l = record {
  kept : IsChosen l.initial.chosen.first (length l.terms) l.chosen;
  value : l.chosen ≡ over_forms (meet_term l.terms (length l.terms)) (length l.terms) (map form_of (take l.row-index l.rows)) l.initial.chosen;
}
