use Rattle.std.proofs.Common.{inl, inr, refl}
use Rattle.depend_test.proofs.Ordering.{order-text, order-pushed, order-left}
use Rattle.depend_test.proofs.order.order_rows.Goals as goal
use Rattle.depend_test.proofs.order.order_rows.Goals.{then-level-early+then-level-late+in_ok-difference_row+in_ok-push, else-level-early, else-level-early-via-then-level-early+else-level-late, else-level-early-via-else-level-early}

pub returns-then-carrier-eq0-clause-value : goal.returns-then-carrier-eq0-clause-value
returns-then-carrier-eq0-clause-value c =
    rw (← order-text c.args.vars c.args.carrier c.args.shared c.args.early.now c.args.late.now c.if-carrier-eq0.true) c.equal_rows.ensures.value

pub returns-clause-value : goal.returns-clause-value
returns-clause-value c =
    elim c.if-level-early.branch [
      | then-level-early+then-level-late+in_ok-difference_row+in_ok-push w ↦
          order-pushed _ _ _ _ _ _ _ _ _ _ _ _ c.if-carrier-eq0.false refl w.rows-is w.in_ok-push.ensures.ok c.in_ok-rows.ensures.value w.in_ok-difference_row.ensures.value w.if-level-early.true w.if-level-late.true w.index-early-level.is w.index-late-level.is
      | else-level-early w ↦
          elim w.else-level-early.branch [
            | else-level-early-via-then-level-early+else-level-late v ↦ order-left _ _ _ _ _ _ _ _ c.if-carrier-eq0.false refl w.rows-is c.in_ok-rows.ensures.value (inr v.if-level-late.false)
            | else-level-early-via-else-level-early v ↦ order-left _ _ _ _ _ _ _ _ c.if-carrier-eq0.false refl w.rows-is c.in_ok-rows.ensures.value (inl v.if-level-early.false)
          ]
    ]
