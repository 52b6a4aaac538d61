-- What is judged of a statement is what is judged of its parts.
use Rattle.std.proofs.Common.{rules, arith, ap, sym, subst, ◌∙◌}
use Rattle.std.proofs.lemmas.Grind.{common_steps}
use Rattle.c_tree.specs.declared.statement.Stmt.{Stmt}
use Rattle.c_judge.specs.Outcomes.{Outcome, Leaves}
use Rattle.c_judge.specs.Statements.{judged}
use Rattle.c_judge.proofs.StatementsAt.{judged_for, judged_if, judged_assign, judged_put, judged_declare, judged_grow}
use Rattle.c_judge.proofs.names.+names.Goals as goal

pub judge_statement-returns-in_err-refuse-in-For : goal.judge_statement-returns-in_err-refuse-in-For
judge_statement-returns-in_err-refuse-in-For t c =
    let e = ap (λ (s : Stmt). judged c.args.part s c.args.scope.now) c.in-For.is ∙ judged_for c.args.part c.in-For.var c.in-For.low c.in-For.high c.in-For.body c.args.scope.now in
    subst (λ (o : Outcome). Leaves o c.from_residual.result c.args.scope.now) (sym e) (first_of (search rules, grind (arith, common_steps)))

pub judge_statement-returns-in_err-refuse-in-If : goal.judge_statement-returns-in_err-refuse-in-If
judge_statement-returns-in_err-refuse-in-If t c =
    let e = ap (λ (s : Stmt). judged c.args.part s c.args.scope.now) c.in-If.is ∙ judged_if c.args.part c.in-If.tests c.in-If.body c.args.scope.now in
    subst (λ (o : Outcome). Leaves o c.from_residual-in_err-refuse-in-If.result c.args.scope.now) (sym e) (first_of (search rules, grind (arith, common_steps)))

pub judge_statement-returns-in_ok-refuse-in-For : goal.judge_statement-returns-in_ok-refuse-in-For
judge_statement-returns-in_ok-refuse-in-For t c =
    let e = ap (λ (s : Stmt). judged c.args.part s c.args.scope.now) c.in-For.is ∙ judged_for c.args.part c.in-For.var c.in-For.low c.in-For.high c.in-For.body c.args.scope.now in
    subst (λ (o : Outcome). Leaves o c.judge_loop.result c.judge_loop.new.scope) (sym e) (first_of (search rules, grind (arith, common_steps)))

pub judge_statement-returns-in_ok-refuse-in-If : goal.judge_statement-returns-in_ok-refuse-in-If
judge_statement-returns-in_ok-refuse-in-If t c =
    let e = ap (λ (s : Stmt). judged c.args.part s c.args.scope.now) c.in-If.is ∙ judged_if c.args.part c.in-If.tests c.in-If.body c.args.scope.now in
    subst (λ (o : Outcome). Leaves o c.judge_names.result c.judge_names.new.scope) (sym e) (first_of (search rules, grind (arith, common_steps)))

pub judge_statement-returns-in-Assign : goal.judge_statement-returns-in-Assign
judge_statement-returns-in-Assign t c =
    let e = ap (λ (s : Stmt). judged c.args.part s c.args.scope.now) c.in-Assign.is ∙ judged_assign c.args.part c.in-Assign.target c.in-Assign.how c.in-Assign.value c.args.scope.now in
    subst (λ (o : Outcome). Leaves o c.refuse-in-Assign.result c.args.scope.now) (sym e) (first_of (search rules, grind (arith, common_steps)))

pub judge_statement-returns-in-Put : goal.judge_statement-returns-in-Put
judge_statement-returns-in-Put t c =
    let e = ap (λ (s : Stmt). judged c.args.part s c.args.scope.now) c.in-Put.is ∙ judged_put c.args.part c.in-Put.target c.in-Put.value c.args.scope.now in
    subst (λ (o : Outcome). Leaves o c.refuse-in-Put.result c.args.scope.now) (sym e) (first_of (search rules, grind (arith, common_steps)))

pub judge_statement-returns-in-Declare : goal.judge_statement-returns-in-Declare
judge_statement-returns-in-Declare t c =
    let e = ap (λ (s : Stmt). judged c.args.part s c.args.scope.now) c.in-Declare.is ∙ judged_declare c.args.part c.in-Declare.name c.in-Declare.kind c.in-Declare.inner c.args.scope.now in
    subst (λ (o : Outcome). Leaves o c.judge_declaration.result c.judge_declaration.new.scope) (sym e) (first_of (search rules, grind (arith, common_steps)))

pub judge_statement-returns-in-Grow : goal.judge_statement-returns-in-Grow
judge_statement-returns-in-Grow t c =
    let e = ap (λ (s : Stmt). judged c.args.part s c.args.scope.now) c.in-Grow.is ∙ judged_grow c.args.part c.in-Grow.name c.in-Grow.by c.args.scope.now in
    subst (λ (o : Outcome). Leaves o c.refuse-in-Grow.result c.args.scope.now) (sym e) (first_of (search rules, grind (arith, common_steps)))
