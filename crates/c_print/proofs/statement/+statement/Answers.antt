use Rattle.std.proofs.Common.{◌-◌, ◌++◌, ap, ◌∙◌, refl, arith}
use Rattle.std.proofs.lemmas.Result.{on_ok_weaker}
use Rattle.c_print.specs.Statement.{statement_text, assign_text, put_text, declaration, growth}
use Rattle.c_print.proofs.Backwards.{begins, turn, ends}
use Rattle.c_print.proofs.Pieces.{two}
use Rattle.c_print.proofs.StatementEquations.{for_put, if_put, lines_assign, lines_put, lines_declare, lines_grow}
use Rattle.c_print.proofs.Texts.{statements}
use Rattle.c_print.proofs.statement.+statement.Goals as goal

pub print_block-loop-at-init : goal.print_block-loop-at-init
print_block-loop-at-init t c = begins (statements c.args.indent.now) c.args.body.now c.args.out.now refl

pub print_block-loop-at-preserved : goal.print_block-loop-at-preserved
print_block-loop-at-preserved t c =
    turn (statements c.args.indent.now) (λ s. statement_text s c.args.indent.now) c.args.body.now (c.loop-at.at - 1) c.loop-at.at c.index-body-at.result c.args.out.now c.loop-at.out c.print_statement.new.out (λ _ _. refl) c.loop-at.invariant (omega arith) c.index-body-at.is c.in_ok-print_statement.ensures

pub print_block-returns : goal.print_block-returns
print_block-returns t c = ends (statements c.args.indent.now) c.args.body.now _ _ _ c.loop-at.invariant c.loop-at-test.false

pub print_statement-returns-in_ok-print_loop_head-in-For : goal.print_statement-returns-in_ok-print_loop_head-in-For
print_statement-returns-in_ok-print_loop_head-in-For t c =
    on_ok_weaker c.put.result
    (λ put. for_put c.args.statement.now c.in-For.var c.in-For.low c.in-For.high c.in-For.body c.as_slice.result.now c.args.indent.now c.args.out.now c.in-For.is c.as_slice.ensures c.in_ok-print_body-in-For.ensures c.in_ok-print_loop_head-in-For.ensures put)
    c.put.ensures

pub print_statement-returns-in_ok-print_guard_head-in-If : goal.print_statement-returns-in_ok-print_guard_head-in-If
print_statement-returns-in_ok-print_guard_head-in-If t c =
    on_ok_weaker c.put-in-If.result
    (λ put. if_put c.args.statement.now c.in-If.tests c.as_slice-in-If-2.result.now c.in-If.body c.as_slice-in-If.result.now c.args.indent.now c.args.out.now c.in-If.is c.as_slice-in-If-2.ensures c.as_slice-in-If.ensures c.in_ok-print_body-in-If.ensures c.in_ok-print_guard_head-in-If.ensures put)
    c.put-in-If.ensures

pub print_statement-returns-in_ok-print_assign-in-Assign : goal.print_statement-returns-in_ok-print_assign-in-Assign
print_statement-returns-in_ok-print_assign-in-Assign t c =
    on_ok_weaker c.put-in-Assign.result
    (λ put. two c.args.indent.now (assign_text c.in-Assign.target c.in-Assign.how c.in-Assign.value) c.args.out.now c.in_ok-print_assign-in-Assign.ensures put (ap (λ s. statement_text s c.args.indent.now) c.in-Assign.is ∙ lines_assign _ _ _ _) refl)
    c.put-in-Assign.ensures

pub print_statement-returns-in_ok-print_put-in-Put : goal.print_statement-returns-in_ok-print_put-in-Put
print_statement-returns-in_ok-print_put-in-Put t c =
    on_ok_weaker c.put-in-Put.result
    (λ put. two c.args.indent.now (put_text c.in-Put.target c.in-Put.value) c.args.out.now c.in_ok-print_put-in-Put.ensures put (ap (λ s. statement_text s c.args.indent.now) c.in-Put.is ∙ lines_put _ _ _) refl)
    c.put-in-Put.ensures

pub print_statement-returns-in_ok-print_declaration-in-Declare : goal.print_statement-returns-in_ok-print_declaration-in-Declare
print_statement-returns-in_ok-print_declaration-in-Declare t c =
    on_ok_weaker c.put-in-Declare.result
    (λ put. two c.args.indent.now (declaration c.in-Declare.name c.in-Declare.kind c.in-Declare.inner) c.args.out.now
    (c.in_ok-print_declaration-in-Declare.ensures ∙ ap (λ xs. declaration c.in-Declare.name c.in-Declare.kind xs ++ c.args.out.now) c.as_slice-in-Declare.ensures) put
    (ap (λ s. statement_text s c.args.indent.now) c.in-Declare.is ∙ lines_declare _ _ _ _) refl)
    c.put-in-Declare.ensures

pub print_statement-returns-in_ok-print_growth-in-Grow : goal.print_statement-returns-in_ok-print_growth-in-Grow
print_statement-returns-in_ok-print_growth-in-Grow t c =
    on_ok_weaker c.put-in-Grow.result
    (λ put. two c.args.indent.now (growth c.in-Grow.name c.in-Grow.by) c.args.out.now c.in_ok-print_growth-in-Grow.ensures put (ap (λ s. statement_text s c.args.indent.now) c.in-Grow.is ∙ lines_grow _ _ _) refl)
    c.put-in-Grow.ensures
