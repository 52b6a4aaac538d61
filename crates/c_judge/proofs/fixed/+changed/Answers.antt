-- What is judged of a statement is what is judged of its parts.
use Rattle.std.proofs.Common.{rules, arith, ap, sym, subst, ◌∙◌, ◌≡◌}
use Rattle.std.proofs.lemmas.Grind.{common_steps}
use Rattle.std.specs.Prelude.{IfOk}
use Rattle.c_tree.specs.declared.statement.Stmt.{Stmt}
use Rattle.c_judge.specs.Fixed.{Changes, changes}
use Rattle.c_judge.proofs.StatementsAt.{changes_for, changes_if, changes_assign, changes_put, changes_declare, changes_grow}
use Rattle.c_judge.proofs.fixed.+changed.Goals as goal

pub add_one-returns-in-For : goal.add_one-returns-in-For
add_one-returns-in-For t c =
    let e = ap (λ (s : Stmt). changes c.args.scope.now c.args.part s) c.in-For.is ∙ changes_for c.args.scope.now c.args.part c.in-For.var c.in-For.low c.in-For.high c.in-For.body in
    subst (λ (k : Changes). IfOk c.add_all.result (λ u. c.add_all.new.changed ≡ k.onto c.args.changed.now)) (sym e) (first_of (search rules, grind (arith, common_steps)))

pub add_one-returns-in-If : goal.add_one-returns-in-If
add_one-returns-in-If t c =
    let e = ap (λ (s : Stmt). changes c.args.scope.now c.args.part s) c.in-If.is ∙ changes_if c.args.scope.now c.args.part c.in-If.tests c.in-If.body in
    subst (λ (k : Changes). IfOk c.add_all-in-If.result (λ u. c.add_all-in-If.new.changed ≡ k.onto c.args.changed.now)) (sym e) (first_of (search rules, grind (arith, common_steps)))

pub add_one-returns-in-Assign : goal.add_one-returns-in-Assign
add_one-returns-in-Assign t c =
    let e = ap (λ (s : Stmt). changes c.args.scope.now c.args.part s) c.in-Assign.is ∙ changes_assign c.args.scope.now c.args.part c.in-Assign.target c.in-Assign.how c.in-Assign.value in
    subst (λ (k : Changes). IfOk c.add_growable.result (λ u. c.add_growable.new.changed ≡ k.onto c.args.changed.now)) (sym e) (first_of (search rules, grind (arith, common_steps)))

pub add_one-returns-in-Put : goal.add_one-returns-in-Put
add_one-returns-in-Put t c =
    let e = ap (λ (s : Stmt). changes c.args.scope.now c.args.part s) c.in-Put.is ∙ changes_put c.args.scope.now c.args.part c.in-Put.target c.in-Put.value in
    subst (λ (k : Changes). IfOk c.add_growable-in-Put.result (λ u. c.add_growable-in-Put.new.changed ≡ k.onto c.args.changed.now)) (sym e) (first_of (search rules, grind (arith, common_steps)))

pub add_one-returns-in-Declare : goal.add_one-returns-in-Declare
add_one-returns-in-Declare t c =
    let e = ap (λ (s : Stmt). changes c.args.scope.now c.args.part s) c.in-Declare.is ∙ changes_declare c.args.scope.now c.args.part c.in-Declare.name c.in-Declare.kind c.in-Declare.inner in
    subst (λ (k : Changes). c.args.changed.now ≡ k.onto c.args.changed.now) (sym e) (search rules)

pub add_one-returns-in-Grow : goal.add_one-returns-in-Grow
add_one-returns-in-Grow t c =
    let e = ap (λ (s : Stmt). changes c.args.scope.now c.args.part s) c.in-Grow.is ∙ changes_grow c.args.scope.now c.args.part c.in-Grow.name c.in-Grow.by in
    subst (λ (k : Changes). IfOk c.add_growable-in-Grow.result (λ u. c.add_growable-in-Grow.new.changed ≡ k.onto c.args.changed.now)) (sym e) (first_of (search rules, grind (arith, common_steps)))
