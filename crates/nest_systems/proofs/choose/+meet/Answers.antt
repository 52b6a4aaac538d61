use Rattle.std.proofs.Common.{rules, ◌≡◌, cond, true, false, List, ◌+◌, ◌-◌, length, get_or, Some, refl, sym, ap, ◌∙◌}
use Rattle.std.specs.List.{slice_get}
use Rattle.std.proofs.lemmas.Option.{slice_get-get_or}
use Rattle.int_rows.specs.declared.row.Aff.{Aff}
use Rattle.nest_systems.specs.declared.choose.Chosen.{Chosen}
use Rattle.nest_systems.specs.Sums.{number_at}
use Rattle.nest_systems.specs.Begun.{is_zero}
use Rattle.nest_systems.specs.Choosing.{meet_term, is_met, chosen, over_forms, arguments}
use Rattle.nest_systems.proofs.Meeting.{not-true, not-false, meet-met, meet-deep, meet-flat, terms-step, forms-step, ok-so}
use Rattle.nest_systems.proofs.choose.+meet.Goals as goal
use Rattle.nest_systems.proofs.choose.+meet.Goals.{meet_form-then-is_held+in_ok-meet_term, meet_form-else-is_held, meet_term-then-deep-gt0+in_ok-meet_forms, meet_term-else-deep-gt0}

pub meet_form-loop-i-preserved : goal.meet_form-loop-i-preserved
meet_form-loop-i-preserved t c =
    let m = meet_term c.args.terms.now c.args.deep in
    elim c.if-is_held.branch [
      | meet_form-then-is_held+in_ok-meet_term w ↦
          let z : is_zero (number_at c.args.form.now.coefs (c.loop-i.chosen.first + c.loop-i.i)) ≡ false = not-true _ w.if-is_held.ensures in
          let e : c.if-is_held.chosen ≡ cond (is_zero (number_at c.args.form.now.coefs (c.loop-i.chosen.first + c.loop-i.i))) c.loop-i.chosen (m c.loop-i.chosen c.loop-i.i) = w.chosen-is ∙ w.in_ok-meet_term.ensures.value ∙ rw z refl in
          record {
            kept = rw w.chosen-is (rw c.loop-i.invariant.kept.place at w.meet_term.ensures.kept);
            value = terms-step m c.args.form.now c.loop-i.i c.loop-i.chosen c.if-is_held.chosen c.args.chosen.now c.loop-i.invariant.value e;
          }
      | meet_form-else-is_held w ↦
          let z : is_zero (number_at c.args.form.now.coefs (c.loop-i.chosen.first + c.loop-i.i)) ≡ true = not-false _ w.if-is_held.ensures in
          let e : c.if-is_held.chosen ≡ cond (is_zero (number_at c.args.form.now.coefs (c.loop-i.chosen.first + c.loop-i.i))) c.loop-i.chosen (m c.loop-i.chosen c.loop-i.i) = w.chosen-is ∙ rw z refl in
          record {
            kept = rw w.chosen-is c.loop-i.invariant.kept;
            value = terms-step m c.args.form.now c.loop-i.i c.loop-i.chosen c.if-is_held.chosen c.args.chosen.now c.loop-i.invariant.value e;
          }
    ]

pub meet_forms-loop-form-preserved : goal.meet_forms-loop-form-preserved
meet_forms-loop-form-preserved t c = record {
  kept = rw c.loop-form.invariant.kept.place at c.meet_form.ensures.kept;
  value = forms-step (meet_term c.args.terms.now c.args.deep) (length c.args.terms.now) c.args.forms.now c.loop-form.form-index c.form-item.result c.loop-form.chosen c.meet_form.new.chosen c.args.chosen.now
      c.loop-form-test.true c.form-item.is c.loop-form.invariant.value c.in_ok-meet_form.ensures.value;
}

pub meet_term-returns-then-is_met-clause-value : goal.meet_term-returns-then-is_met-clause-value
meet_term-returns-then-is_met-clause-value t c = sym (meet-met c.args.terms.now c.args.deep c.args.chosen.now c.args.term (sym c.if-is_met.ensures))

pub meet_term-returns-clause-value : goal.meet_term-returns-clause-value
meet_term-returns-clause-value t c =
    let e : is_met c.args.chosen.now c.args.term ≡ false = sym c.if-is_met.ensures in
    ok-so c.choose.result c.choose.new.chosen _ _ c.choose.ensures.value (elim c.if-deep-gt0.branch [
      | meet_term-then-deep-gt0+in_ok-meet_forms w ↦
          let g : slice_get c.args.terms.now c.args.term ≡ Some (get_or c.args.terms.now c.args.term w.index-terms-term.result) = slice_get-get_or c.args.terms.now c.args.term w.index-terms-term.result c.requires.term in
          let fs : w.as_slice.result.now ≡ arguments (slice_get c.args.terms.now c.args.term) = w.as_slice.ensures ∙ sym (ap arguments g) in
          let o = ap (λ (forms : List Aff). over_forms (meet_term c.args.terms.now (c.args.deep - 1)) (length c.args.terms.now) forms c.args.chosen.now) fs in
          let d : c.if-deep-gt0.chosen ≡ over_forms (meet_term c.args.terms.now (c.args.deep - 1)) (length c.args.terms.now) (arguments (slice_get c.args.terms.now c.args.term)) c.args.chosen.now = w.chosen-is ∙ w.in_ok-meet_forms.ensures.value ∙ o in
          ap (λ (x : Chosen). chosen c.args.terms.now x c.args.term) d ∙ sym (meet-deep c.args.terms.now c.args.deep c.args.chosen.now c.args.term w.if-deep-gt0.true ∙ rw e refl)
      | meet_term-else-deep-gt0 w ↦
          ap (λ (x : Chosen). chosen c.args.terms.now x c.args.term) w.chosen-is ∙ sym (meet-flat c.args.terms.now c.args.deep c.args.chosen.now c.args.term (search rules) ∙ rw e refl)
    ])
