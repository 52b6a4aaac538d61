use Rattle.std.proofs.Common.{◌<◌, length, rules, refl, sym, ◌∙◌}
use Rattle.depend_test.proofs.Ordering.{equal-none, equal-push, equal-end, rows-push}
use Rattle.depend_test.proofs.order.equal_rows.Goals as goal

pub loop-place-init : goal.loop-place-init
loop-place-init c = record { width = rw c.new-rows.ensures refl; value = c.new-rows.ensures ∙ sym (equal-none _ _ _) }

pub loop-place-preserved : goal.loop-place-preserved
loop-place-preserved c =
    let p : c.loop-place.place < length c.args.a.now = search rules in
    let q : c.loop-place.place < length c.args.b.now = search rules in
    record {
      width = rows-push _ _ _ _ c.in_ok-push.ensures.ok c.loop-place.invariant.width c.in_ok-difference_row.ensures.width;
      value = equal-push _ _ _ _ _ _ _ _ _ p q c.index-a-place.is c.index-b-place.is c.in_ok-push.ensures.ok c.in_ok-difference_row.ensures.value c.loop-place.invariant.value;
    }

pub returns-clause-value : goal.returns-clause-value
returns-clause-value c = c.loop-place.invariant.value ∙ equal-end _ c.loop-place.place _ _ _ (search rules)
