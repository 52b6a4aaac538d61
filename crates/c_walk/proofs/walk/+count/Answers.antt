use Rattle.std.proofs.Common.{rules, ◌≡◌, sym, ap, ◌∙◌, subst, ◌<◌, ◌≤◌, ◌+◌, ◌^◌, ◌∷◌, length, drop, map, arith}
use Rattle.c_tree.specs.declared.statement.Stmt.{the_lemmas}
use Rattle.c_meaning.specs.Run.{part, widths}
use Rattle.c_walk.proofs.Lists.{drop-next, drop-past}
use Rattle.c_walk.proofs.Pieces.{widths_next, widths_none}
use Rattle.c_walk.proofs.Statements.{width-For, width-If, width-Assign, width-Put, width-Declare, width-Grow}
use Rattle.c_walk.proofs.walk.+count.Goals as goal

pub positions_after-positions_behind-requires : goal.positions_after-positions_behind-requires
positions_after-positions_behind-requires t c = (search (rules, the_lemmas), subst (λ w. c.args.before + w ≤ 2 ^ 33) (width-If c.args.statement.now c.in-If.tests c.in-If.body c.in-If.is) c.requires)

pub positions_after-returns-in-If : goal.positions_after-returns-in-If
positions_after-returns-in-If t c = c.positions_behind.ensures ∙ ap (λ w. c.args.before + w) (sym (width-If c.args.statement.now c.in-If.tests c.in-If.body c.in-If.is))

pub positions_after-returns-in-For : goal.positions_after-returns-in-For
positions_after-returns-in-For t c = ap (λ w. c.args.before + w) (sym (width-For c.args.statement.now _ _ _ _ c.in-For.is))

pub positions_after-returns-in-Assign : goal.positions_after-returns-in-Assign
positions_after-returns-in-Assign t c = ap (λ w. c.args.before + w) (sym (width-Assign c.args.statement.now _ _ _ c.in-Assign.is))

pub positions_after-returns-in-Put : goal.positions_after-returns-in-Put
positions_after-returns-in-Put t c = ap (λ w. c.args.before + w) (sym (width-Put c.args.statement.now _ _ c.in-Put.is))

pub positions_after-returns-in-Declare : goal.positions_after-returns-in-Declare
positions_after-returns-in-Declare t c = ap (λ w. c.args.before + w) (sym (width-Declare c.args.statement.now _ _ _ c.in-Declare.is))

pub positions_after-returns-in-Grow : goal.positions_after-returns-in-Grow
positions_after-returns-in-Grow t c = ap (λ w. c.args.before + w) (sym (width-Grow c.args.statement.now _ _ c.in-Grow.is))

pub positions_behind-loop-statement-init : goal.positions_behind-loop-statement-init
positions_behind-loop-statement-init t c = ap (λ l. c.args.before + widths (map part l)) c.as_slice-statement-items.ensures

pub positions_behind-positions_after-position-requires : goal.positions_behind-positions_after-position-requires
positions_behind-positions_after-position-requires t c =
    let lt : c.loop-statement.statement-index < length c.as_slice-statement-items.result.now = omega (arith, c.loop-statement-test.true) in
    let next : drop c.loop-statement.statement-index c.as_slice-statement-items.result.now ≡ c.statement-item.result ∷ drop (c.loop-statement.statement-index + 1) c.as_slice-statement-items.result.now =
    drop-next c.as_slice-statement-items.result.now c.loop-statement.statement-index c.statement-item.result lt ∙ ap (λ t. t ∷ drop (c.loop-statement.statement-index + 1) c.as_slice-statement-items.result.now) (sym c.statement-item.is) in
    (search (rules, the_lemmas), omega (arith, c.loop-statement.invariant, widths_next _ _ c.statement-item.result next, c.requires))

pub positions_behind-loop-statement-preserved : goal.positions_behind-loop-statement-preserved
positions_behind-loop-statement-preserved t c =
    let lt : c.loop-statement.statement-index < length c.as_slice-statement-items.result.now = omega (arith, c.loop-statement-test.true) in
    let next : drop c.loop-statement.statement-index c.as_slice-statement-items.result.now ≡ c.statement-item.result ∷ drop (c.loop-statement.statement-index + 1) c.as_slice-statement-items.result.now =
    drop-next c.as_slice-statement-items.result.now c.loop-statement.statement-index c.statement-item.result lt ∙ ap (λ t. t ∷ drop (c.loop-statement.statement-index + 1) c.as_slice-statement-items.result.now) (sym c.statement-item.is) in
    omega (arith, c.loop-statement.invariant, widths_next _ _ c.statement-item.result next, c.positions_after-position.ensures)

pub positions_behind-returns : goal.positions_behind-returns
positions_behind-returns t c =
    omega (arith, c.loop-statement.invariant, widths_none _ (drop-past c.as_slice-statement-items.result.now c.loop-statement.statement-index (omega (arith, c.loop-statement-test.false))))
