-- What is judged of a statement is what is judged of its parts.
use Rattle.std.proofs.Common.{rules, arith, ap, sym, subst, ◌∙◌}
use Rattle.std.proofs.lemmas.Grind.{common_steps}
use Rattle.c_tree.specs.declared.statement.Stmt.{Stmt}
use Rattle.c_judge.specs.Fixed.{Changes, changes}
use Rattle.c_judge.specs.Outcomes.{Tells}
use Rattle.c_judge.proofs.StatementsAt.{changes_for, changes_if, changes_assign, changes_put, changes_declare, changes_grow}
use Rattle.c_judge.proofs.fixed.+fixed.Goals as goal

pub judge_change-returns-in_err-judge_bound-in-For : goal.judge_change-returns-in_err-judge_bound-in-For
judge_change-returns-in_err-judge_bound-in-For t c =
    let e = ap (λ (s : Stmt). changes c.args.scope.now c.args.part s) c.in-For.is ∙ changes_for c.args.scope.now c.args.part c.in-For.var c.in-For.low c.in-For.high c.in-For.body in
    subst (λ (k : Changes). Tells k.fault c.from_residual.result) (sym e) (first_of (search rules, grind (arith, common_steps)))

pub judge_change-returns-in_ok-judge_bound-in-For : goal.judge_change-returns-in_ok-judge_bound-in-For
judge_change-returns-in_ok-judge_bound-in-For t c =
    let e = ap (λ (s : Stmt). changes c.args.scope.now c.args.part s) c.in-For.is ∙ changes_for c.args.scope.now c.args.part c.in-For.var c.in-For.low c.in-For.high c.in-For.body in
    subst (λ (k : Changes). Tells k.fault c.judge_fixed.result) (sym e) (first_of (search rules, grind (arith, common_steps)))

pub judge_change-returns-in-If : goal.judge_change-returns-in-If
judge_change-returns-in-If t c =
    let e = ap (λ (s : Stmt). changes c.args.scope.now c.args.part s) c.in-If.is ∙ changes_if c.args.scope.now c.args.part c.in-If.tests c.in-If.body in
    subst (λ (k : Changes). Tells k.fault c.judge_fixed-in-If.result) (sym e) (first_of (search rules, grind (arith, common_steps)))

pub judge_change-returns-in-Assign : goal.judge_change-returns-in-Assign
judge_change-returns-in-Assign t c =
    let e = ap (λ (s : Stmt). changes c.args.scope.now c.args.part s) c.in-Assign.is ∙ changes_assign c.args.scope.now c.args.part c.in-Assign.target c.in-Assign.how c.in-Assign.value in
    subst (λ (k : Changes). Tells k.fault c.refuse.result) (sym e) (first_of (search rules, grind (arith, common_steps)))

pub judge_change-returns-in-Put : goal.judge_change-returns-in-Put
judge_change-returns-in-Put t c =
    let e = ap (λ (s : Stmt). changes c.args.scope.now c.args.part s) c.in-Put.is ∙ changes_put c.args.scope.now c.args.part c.in-Put.target c.in-Put.value in
    subst (λ (k : Changes). Tells k.fault c.refuse-in-Put.result) (sym e) (first_of (search rules, grind (arith, common_steps)))

pub judge_change-returns-in-Declare : goal.judge_change-returns-in-Declare
judge_change-returns-in-Declare t c =
    let e = ap (λ (s : Stmt). changes c.args.scope.now c.args.part s) c.in-Declare.is ∙ changes_declare c.args.scope.now c.args.part c.in-Declare.name c.in-Declare.kind c.in-Declare.inner in
    ap (λ (k : Changes). k.fault) e

pub judge_change-returns-in-Grow : goal.judge_change-returns-in-Grow
judge_change-returns-in-Grow t c =
    let e = ap (λ (s : Stmt). changes c.args.scope.now c.args.part s) c.in-Grow.is ∙ changes_grow c.args.scope.now c.args.part c.in-Grow.name c.in-Grow.by in
    subst (λ (k : Changes). Tells k.fault c.refuse-in-Grow.result) (sym e) (first_of (search rules, grind (arith, common_steps)))
