-- Each statement adds what it counts.
use Rattle.std.proofs.Common.{ℕ, ◌+◌, ◌-◌, ◌^◌, List, min, arith, ap, sym, ◌∙◌}
use Rattle.c_tree.specs.declared.statement.Stmt.{Stmt}
use Rattle.c_judge.specs.Limits.{capped, plain, declaration, assignment, count_in, count_of}
use Rattle.c_judge.proofs.SizesAt.{count_for, count_if, count_assign, count_put, count_declare, count_grow, plain_small, declaration_small, assignment_small, small, own_more, adds_one, adds_all}
use Rattle.c_judge.proofs.limits.+count.Goals as goal

pub count-loop-statement-preserved : goal.count-loop-statement-preserved
count-loop-statement-preserved t c =
    let k = c.args.counted in
    record {
      fits = omega (arith, c.saturating_add-total.ensures);
      gathers = adds_one k c.args.statements.now c.loop-statement.statement-index c.loop-statement.total c.count_one.result c.saturating_add-total.result (capped (count_of k c.args.statements.now)) c.statement-item.result
          c.loop-statement-test.true c.statement-item.is c.count_one.ensures c.saturating_add-total.ensures c.loop-statement.invariant.gathers;
    }

pub count-returns : goal.count-returns
count-returns t c =
    adds_all c.args.counted c.args.statements.now c.loop-statement.statement-index c.loop-statement.total _ c.loop-statement-test.false c.loop-statement.invariant.fits c.loop-statement.invariant.gathers

pub count_one-returns-in-For : goal.count_one-returns-in-For
count_one-returns-in-For t c =
    let k = c.args.counted in
    own_more (plain k) (count_of k c.in-For.body) c.saturating_add.result (count_in k c.args.statement.now) c.count.result (plain_small k)
    (c.count.ensures ∙ ap (λ (ss : List Stmt). capped (count_of k ss)) c.as_slice.ensures)
    (c.saturating_add.ensures ∙ ap (λ (n : ℕ). min (n + c.count.result) (2 ^ 64 - 1)) c.plain.ensures)
    (ap (count_in k) c.in-For.is ∙ count_for k c.in-For.var c.in-For.low c.in-For.high c.in-For.body)

pub count_one-returns-in-If : goal.count_one-returns-in-If
count_one-returns-in-If t c =
    let k = c.args.counted in
    own_more (plain k) (count_of k c.in-If.body) c.saturating_add-in-If.result (count_in k c.args.statement.now) c.count-in-If.result (plain_small k)
    (c.count-in-If.ensures ∙ ap (λ (ss : List Stmt). capped (count_of k ss)) c.as_slice-in-If.ensures)
    (c.saturating_add-in-If.ensures ∙ ap (λ (n : ℕ). min (n + c.count-in-If.result) (2 ^ 64 - 1)) c.plain-in-If.ensures)
    (ap (count_in k) c.in-If.is ∙ count_if k c.in-If.tests c.in-If.body)

pub count_one-returns-in-Assign : goal.count_one-returns-in-Assign
count_one-returns-in-Assign t c =
    let k = c.args.counted in
    c.assignment.ensures ∙ small (assignment k) (assignment_small k) ∙ ap capped (sym (ap (count_in k) c.in-Assign.is ∙ count_assign k c.in-Assign.target c.in-Assign.how c.in-Assign.value))

pub count_one-returns-in-Put : goal.count_one-returns-in-Put
count_one-returns-in-Put t c =
    let k = c.args.counted in
    c.plain-in-Put.ensures ∙ small (plain k) (plain_small k) ∙ ap capped (sym (ap (count_in k) c.in-Put.is ∙ count_put k c.in-Put.target c.in-Put.value))

pub count_one-returns-in-Declare : goal.count_one-returns-in-Declare
count_one-returns-in-Declare t c =
    let k = c.args.counted in
    c.declaration.ensures ∙ small (declaration k) (declaration_small k) ∙ ap capped (sym (ap (count_in k) c.in-Declare.is ∙ count_declare k c.in-Declare.name c.in-Declare.kind c.in-Declare.inner))

pub count_one-returns-in-Grow : goal.count_one-returns-in-Grow
count_one-returns-in-Grow t c =
    let k = c.args.counted in
    c.plain-in-Grow.ensures ∙ small (plain k) (plain_small k) ∙ ap capped (sym (ap (count_in k) c.in-Grow.is ∙ count_grow k c.in-Grow.name c.in-Grow.by))
