-- Each statement adds what it counts.
use Rattle.std.proofs.Common.{List, arith, ap, ◌∙◌}
use Rattle.c_tree.specs.declared.statement.Stmt.{Stmt}
use Rattle.c_judge.specs.Limits.{capped, count_in, count_of}
use Rattle.c_judge.specs.declared.limits.Counted.TheVariants.{All}
use Rattle.c_judge.proofs.SizesAt.{count_for, count_if, count_assign, count_put, count_declare, count_grow, adds_one, adds_all}
use Rattle.source_limits.proofs.count.+count.Goals as goal

pub count_statements-loop-statement-preserved : goal.count_statements-loop-statement-preserved
count_statements-loop-statement-preserved t c =
    record {
      fits = omega (arith, c.saturating_add-total.ensures);
      gathers = adds_one All c.args.statements.now c.loop-statement.statement-index c.loop-statement.total c.count_one.result c.saturating_add-total.result (capped (count_of All c.args.statements.now)) c.statement-item.result
          c.loop-statement-test.true c.statement-item.is c.count_one.ensures c.saturating_add-total.ensures c.loop-statement.invariant.gathers;
    }

pub count_statements-returns : goal.count_statements-returns
count_statements-returns t c =
    adds_all All c.args.statements.now c.loop-statement.statement-index c.loop-statement.total _ c.loop-statement-test.false c.loop-statement.invariant.fits c.loop-statement.invariant.gathers

pub count_one-returns-in-For : goal.count_one-returns-in-For
count_one-returns-in-For t c =
    let e = ap (count_in All) c.in-For.is ∙ count_for All c.in-For.var c.in-For.low c.in-For.high c.in-For.body in
    let n = c.count_statements.ensures ∙ ap (λ (ss : List Stmt). capped (count_of All ss)) c.as_slice.ensures in
    omega (arith, e, n, c.saturating_add.ensures)

pub count_one-returns-in-If : goal.count_one-returns-in-If
count_one-returns-in-If t c =
    let e = ap (count_in All) c.in-If.is ∙ count_if All c.in-If.tests c.in-If.body in
    let n = c.count_statements-in-If.ensures ∙ ap (λ (ss : List Stmt). capped (count_of All ss)) c.as_slice-in-If.ensures in
    omega (arith, e, n, c.saturating_add-in-If.ensures)

pub count_one-returns-in-Assign : goal.count_one-returns-in-Assign
count_one-returns-in-Assign t c = let e = ap (count_in All) c.in-Assign.is ∙ count_assign All c.in-Assign.target c.in-Assign.how c.in-Assign.value in omega (arith, e)

pub count_one-returns-in-Put : goal.count_one-returns-in-Put
count_one-returns-in-Put t c = let e = ap (count_in All) c.in-Put.is ∙ count_put All c.in-Put.target c.in-Put.value in omega (arith, e)

pub count_one-returns-in-Declare : goal.count_one-returns-in-Declare
count_one-returns-in-Declare t c = let e = ap (count_in All) c.in-Declare.is ∙ count_declare All c.in-Declare.name c.in-Declare.kind c.in-Declare.inner in omega (arith, e)

pub count_one-returns-in-Grow : goal.count_one-returns-in-Grow
count_one-returns-in-Grow t c = let e = ap (count_in All) c.in-Grow.is ∙ count_grow All c.in-Grow.name c.in-Grow.by in omega (arith, e)
