use Rattle.std.proofs.Common.{sym, subst, ◌∙◌}
use Rattle.std.proofs.lemmas.List.{take_all}
use Rattle.std.specs.List.{AllByRecursion}
use Rattle.int_rows.specs.Systems.{IsRowOf}
use Rattle.depend_test.proofs.Pushing.{alone-found, rows-more}
use Rattle.depend_test.proofs.quick.any_impossible.Goals as goal
use Rattle.depend_test.proofs.quick.any_impossible.Goals.{then-branch, else-branch}

pub loop-row-preserved : goal.loop-row-preserved
loop-row-preserved c =
    let one = c.in_ok-is_impossible.ensures in
    let small = rows-more c.args.vars c.args.rows.now c.loop-row.row-index c.row-item.result c.loop-row-test.true c.row-item.is (c.loop-row.invariant).0 one.0 in
    elim c.if-branch.branch [
      | then-branch w ↦ (small, λ h. alone-found c.args.vars c.args.rows.now c.loop-row.row-index c.row-item.result c.in_ok-is_impossible.field-0 w.if-branch.true c.loop-row-test.true c.row-item.is one.1)
      | else-branch w ↦ (small, λ h. (c.loop-row.invariant).1 (sym w.found-is ∙ h))
    ]

pub returns : goal.returns
returns c = λ h. (subst (AllByRecursion (IsRowOf c.args.vars)) (take_all c.loop-row.row-index c.args.rows.now c.loop-row-test.false) (c.loop-row.invariant).0, (c.loop-row.invariant).1 h)
