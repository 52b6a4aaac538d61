use Rattle.std.proofs.Common.{◌≡◌, sym, ap, ◌∙◌, subst, ◌<◌, ◌+◌, ◌∷◌, length, drop, get_or, Ok, Err, true, false, arith, List, if◌then◌else◌}
use Rattle.c_tree.specs.declared.statement.Test.{Test}
use Rattle.c_meaning.specs.Value.{◌>>=◌, holds, all_hold}
use Rattle.c_meaning.specs.Scope.{test_fits}
use Rattle.c_walk.proofs.Lists.{each_of, drop-next, drop-past}
use Rattle.c_walk.proofs.walk.eval_tests.Goals as goal

pub loop-test-init : goal.loop-test-init
loop-test-init g c = ap (λ l. all_hold l (g.V.View.sight c.args.view.now)) c.as_slice-test-items.ensures

pub eval_test-requires : goal.eval_test-requires
eval_test-requires g c =
    ap (λ t. test_fits t (g.V.View.scope c.args.view.now)) (c.test-item.is ∙ ap (λ l. get_or l c.loop-test.test-index c.test-item.result) c.as_slice-test-items.ensures)
    ∙ each_of (λ t. test_fits t (g.V.View.scope c.args.view.now)) c.args.tests.now c.loop-test.test-index c.test-item.result c.requires
    (subst (λ (l : List Test). c.loop-test.test-index < length l) c.as_slice-test-items.ensures (omega (arith, c.loop-test-test.true)))

pub loop-test-preserved : goal.loop-test-preserved
loop-test-preserved g c =
    let lt : c.loop-test.test-index < length c.as_slice-test-items.result.now = omega (arith, c.loop-test-test.true) in
    let next : drop c.loop-test.test-index c.as_slice-test-items.result.now ≡ c.test-item.result ∷ drop (c.loop-test.test-index + 1) c.as_slice-test-items.result.now =
    drop-next c.as_slice-test-items.result.now c.loop-test.test-index c.test-item.result lt ∙ ap (λ t. t ∷ drop (c.loop-test.test-index + 1) c.as_slice-test-items.result.now) (sym c.test-item.is) in
    let here : holds c.test-item.result (g.V.View.sight c.args.view.now) ≡ Ok true = sym c.eval_test.ensures ∙ c.in-Ok-true.is ∙ ap Ok c.in-Ok-true.field-0-test in
    sym (ap (λ l. all_hold l (g.V.View.sight c.args.view.now)) next
    ∙ ap (λ a. a >>= (λ b. if b then all_hold (drop (c.loop-test.test-index + 1) c.as_slice-test-items.result.now) (g.V.View.sight c.args.view.now) else Ok false)) here)
    ∙ c.loop-test.invariant

pub returns-in-Ok-false : goal.returns-in-Ok-false
returns-in-Ok-false g c =
    let lt : c.loop-test.test-index < length c.as_slice-test-items.result.now = omega (arith, c.loop-test-test.true) in
    let next : drop c.loop-test.test-index c.as_slice-test-items.result.now ≡ c.test-item.result ∷ drop (c.loop-test.test-index + 1) c.as_slice-test-items.result.now =
    drop-next c.as_slice-test-items.result.now c.loop-test.test-index c.test-item.result lt ∙ ap (λ t. t ∷ drop (c.loop-test.test-index + 1) c.as_slice-test-items.result.now) (sym c.test-item.is) in
    let here : holds c.test-item.result (g.V.View.sight c.args.view.now) ≡ Ok false = sym c.eval_test.ensures ∙ c.in-Ok-false.is ∙ ap Ok c.in-Ok-false.field-0-test in
    sym (ap (λ l. all_hold l (g.V.View.sight c.args.view.now)) next
    ∙ ap (λ a. a >>= (λ b. if b then all_hold (drop (c.loop-test.test-index + 1) c.as_slice-test-items.result.now) (g.V.View.sight c.args.view.now) else Ok false)) here)
    ∙ c.loop-test.invariant

pub returns-in-Err : goal.returns-in-Err
returns-in-Err g c =
    let lt : c.loop-test.test-index < length c.as_slice-test-items.result.now = omega (arith, c.loop-test-test.true) in
    let next : drop c.loop-test.test-index c.as_slice-test-items.result.now ≡ c.test-item.result ∷ drop (c.loop-test.test-index + 1) c.as_slice-test-items.result.now =
    drop-next c.as_slice-test-items.result.now c.loop-test.test-index c.test-item.result lt ∙ ap (λ t. t ∷ drop (c.loop-test.test-index + 1) c.as_slice-test-items.result.now) (sym c.test-item.is) in
    let here : holds c.test-item.result (g.V.View.sight c.args.view.now) ≡ Err c.in-Err.fault = sym c.eval_test.ensures ∙ c.in-Err.is in
    sym (ap (λ l. all_hold l (g.V.View.sight c.args.view.now)) next
    ∙ ap (λ a. a >>= (λ b. if b then all_hold (drop (c.loop-test.test-index + 1) c.as_slice-test-items.result.now) (g.V.View.sight c.args.view.now) else Ok false)) here)
    ∙ c.loop-test.invariant

pub returns : goal.returns
returns g c = sym (ap (λ l. all_hold l (g.V.View.sight c.args.view.now)) (drop-past c.as_slice-test-items.result.now c.loop-test.test-index (omega (arith, c.loop-test-test.false)))) ∙ c.loop-test.invariant
