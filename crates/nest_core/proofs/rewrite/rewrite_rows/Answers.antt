use Rattle.std.proofs.Common.{sym, ◌∙◌}
use Rattle.nest_core.proofs.Makes.{gives-err}
use Rattle.nest_core.proofs.Keeping.{keeps-dropped, keeps-one, keeps-not}
use Rattle.nest_core.proofs.rewrite.rewrite_rows.Goals.{then-not-contains+in_ok-rewrite_row+in_ok-push, else-not-contains}
use Rattle.nest_core.proofs.rewrite.rewrite_rows.Goals as goal

pub returns-in_err-rewrite_row : goal.returns-in_err-rewrite_row
returns-in_err-rewrite_row c =
    gives-err _ _ _ _ c.from_residual.ensures c.in_err-rewrite_row.ensures
    (λ x h. keeps-not _ _ _ c.loop-i.i-counter c.index-rows-i.result _ x c.loop-i-test.true c.index-rows-i.is (sym c.if-not-contains.ensures.value) h c.loop-i.invariant)

pub loop-i-preserved : goal.loop-i-preserved
loop-i-preserved c =
    elim c.if-not-contains.branch [
      | then-not-contains+in_ok-rewrite_row+in_ok-push w ↦
          keeps-one _ _ _ c.loop-i.i-counter w.index-rows-i.result _ _ _ c.loop-i-test.true w.index-rows-i.is (sym w.if-not-contains.ensures.value) w.in_ok-rewrite_row.ensures (w.new-is ∙ w.in_ok-push.ensures.ok) c.loop-i.invariant
      | else-not-contains w ↦
          rw w.new-is (keeps-dropped _ _ _ c.loop-i.i-counter _ c.loop-i-test.true (sym w.if-not-contains.ensures.value) c.loop-i.invariant)
    ]
