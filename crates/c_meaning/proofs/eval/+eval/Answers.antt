-- What each call asks, a smaller expression that fits the scope, and what is gathered at each part of a sum.
use Rattle.std.proofs.Common.{rules, sym, ap, ◌∙◌, subst, w64, FitsSigned, Ok, arith}
use Rattle.std.proofs.lemmas.Int.{to_z-of_z}
use Rattle.c_tree.specs.declared.index.Index.{the_lemmas}
use Rattle.c_meaning.specs.Weighed.{plain}
use Rattle.c_meaning.specs.Value.{measure, value_of}
use Rattle.c_meaning.specs.Capped.{capped, cap}
use Rattle.c_meaning.specs.Scope.{fits}
use Rattle.c_meaning.proofs.Equations.{measure-Const, measure-Var, measure-At, measure-Neg, measure-Times, measure-Min, measure-Max, measure-Floor, measure-Ceil}
use Rattle.c_meaning.proofs.Fitting.{name-Var, cell-At, part-Neg, left-Plus, right-Plus, left-Minus, right-Minus, part-Times, left-Min, right-Min, left-Max, right-Max, divisor-Floor, part-Floor, divisor-Ceil, part-Ceil, first-One, first-Two, second-Two, first-Three, second-Three, third-Three, at-Cell}
use Rattle.c_meaning.proofs.Gathers.{Gathers, begins, adds, takes, ends}
use Rattle.c_meaning.proofs.Readings.{some_extents, reads, is_outside, has_fault, three_of_one, three_of_two, three_of_three}
use Rattle.c_meaning.proofs.eval.+eval.Goals as goal

pub eval_subscripts-eval_index-requires : goal.eval_subscripts-eval_index-requires
eval_subscripts-eval_index-requires g t c κs within = (search (rules, the_lemmas), (search rules, ap (λ e. fits e (g.V.View.scope c.args.view.now)) c.get.ensures ∙ first-One (g.V.View.scope c.args.view.now) _ _ _ c.in-One.is c.requires.1))

pub eval_subscripts-returns-in-One : goal.eval_subscripts-returns-in-One
eval_subscripts-returns-in-One g t c =
    c.all_three.ensures ∙ three_of_one c.args.at.now c.in-One.a (g.V.View.sight c.args.view.now) _ c.in-One.is (c.eval_index.ensures ∙ ap (λ e. value_of e (g.V.View.sight c.args.view.now)) c.get.ensures)

pub eval_subscripts-eval_index-requires-in-Two : goal.eval_subscripts-eval_index-requires-in-Two
eval_subscripts-eval_index-requires-in-Two g t c κs within = (search (rules, the_lemmas), (search rules, ap (λ e. fits e (g.V.View.scope c.args.view.now)) c.get-in-Two.ensures ∙ first-Two (g.V.View.scope c.args.view.now) _ _ _ _ c.in-Two.is c.requires.1))

pub eval_subscripts-eval_index-requires-in-Two-2 : goal.eval_subscripts-eval_index-requires-in-Two-2
eval_subscripts-eval_index-requires-in-Two-2 g t c κs within = (search (rules, the_lemmas), (search rules, ap (λ e. fits e (g.V.View.scope c.args.view.now)) c.get-in-Two-2.ensures ∙ second-Two (g.V.View.scope c.args.view.now) _ _ _ _ c.in-Two.is c.requires.1))

pub eval_subscripts-returns-in-Two : goal.eval_subscripts-returns-in-Two
eval_subscripts-returns-in-Two g t c =
    c.all_three-in-Two.ensures ∙ three_of_two c.args.at.now c.in-Two.a c.in-Two.b (g.V.View.sight c.args.view.now) _ _ c.in-Two.is (c.eval_index-in-Two.ensures ∙ ap (λ e. value_of e (g.V.View.sight c.args.view.now)) c.get-in-Two.ensures) (c.eval_index-in-Two-2.ensures ∙ ap (λ e. value_of e (g.V.View.sight c.args.view.now)) c.get-in-Two-2.ensures)

pub eval_subscripts-eval_index-requires-in-Three : goal.eval_subscripts-eval_index-requires-in-Three
eval_subscripts-eval_index-requires-in-Three g t c κs within = (search (rules, the_lemmas), (search rules, ap (λ e. fits e (g.V.View.scope c.args.view.now)) c.get-in-Three.ensures ∙ first-Three (g.V.View.scope c.args.view.now) _ _ _ _ _ c.in-Three.is c.requires.1))

pub eval_subscripts-eval_index-requires-in-Three-2 : goal.eval_subscripts-eval_index-requires-in-Three-2
eval_subscripts-eval_index-requires-in-Three-2 g t c κs within = (search (rules, the_lemmas), (search rules, ap (λ e. fits e (g.V.View.scope c.args.view.now)) c.get-in-Three-2.ensures ∙ second-Three (g.V.View.scope c.args.view.now) _ _ _ _ _ c.in-Three.is c.requires.1))

pub eval_subscripts-eval_index-requires-in-Three-3 : goal.eval_subscripts-eval_index-requires-in-Three-3
eval_subscripts-eval_index-requires-in-Three-3 g t c κs within = (search (rules, the_lemmas), (search rules, ap (λ e. fits e (g.V.View.scope c.args.view.now)) c.get-in-Three-3.ensures ∙ third-Three (g.V.View.scope c.args.view.now) _ _ _ _ _ c.in-Three.is c.requires.1))

pub eval_subscripts-returns-in-Three : goal.eval_subscripts-returns-in-Three
eval_subscripts-returns-in-Three g t c =
    c.all_three-in-Three.ensures ∙ three_of_three c.args.at.now c.in-Three.a c.in-Three.b c.in-Three.c (g.V.View.sight c.args.view.now) _ _ _ c.in-Three.is (c.eval_index-in-Three.ensures ∙ ap (λ e. value_of e (g.V.View.sight c.args.view.now)) c.get-in-Three.ensures) (c.eval_index-in-Three-2.ensures ∙ ap (λ e. value_of e (g.V.View.sight c.args.view.now)) c.get-in-Three-2.ensures) (c.eval_index-in-Three-3.ensures ∙ ap (λ e. value_of e (g.V.View.sight c.args.view.now)) c.get-in-Three-3.ensures)

pub weigh-loop-rest-init : goal.weigh-loop-rest-init
weigh-loop-rest-init g t c =
    record { size = omega arith; fit = c.requires; gathers = begins c.args.e.now (Ok c.plain.result) (g.V.View.sight c.args.view.now) (ap Ok c.plain.ensures) }

pub weigh-weigh-requires : goal.weigh-weigh-requires
weigh-weigh-requires g t c κs within = (search (rules, the_lemmas), (search rules, ap (λ e. fits e (g.V.View.scope c.args.view.now)) c.get.ensures ∙ right-Plus (g.V.View.scope c.args.view.now) _ _ _ c.in-Plus.is c.loop-rest.invariant.fit))

pub weigh-loop-rest-preserved-in-Plus : goal.weigh-loop-rest-preserved-in-Plus
weigh-loop-rest-preserved-in-Plus g t c =
    record {
      size = search (rules, the_lemmas);
      fit = ap (λ e. fits e (g.V.View.scope c.args.view.now)) c.get-rest.ensures ∙ left-Plus (g.V.View.scope c.args.view.now) _ _ _ c.in-Plus.is c.loop-rest.invariant.fit;
      gathers = subst (λ l. Gathers c.args.e.now l c.sum-right.result (g.V.View.sight c.args.view.now)) (sym c.get-rest.ensures)
          (adds c.args.e.now c.loop-rest.rest.now c.in-Plus.left c.in-Plus.part c.loop-rest.right c.sum-right.result c.weigh.result (g.V.View.sight c.args.view.now) c.loop-rest.invariant.gathers c.in-Plus.is (c.weigh.ensures ∙ ap (λ e. cap (measure e (g.V.View.sight c.args.view.now))) c.get.ensures) c.sum-right.ensures);
    }

pub weigh-weigh-requires-in-Minus : goal.weigh-weigh-requires-in-Minus
weigh-weigh-requires-in-Minus g t c κs within = (search (rules, the_lemmas), (search rules, ap (λ e. fits e (g.V.View.scope c.args.view.now)) c.get-in-Minus.ensures ∙ right-Minus (g.V.View.scope c.args.view.now) _ _ _ c.in-Minus.is c.loop-rest.invariant.fit))

pub weigh-loop-rest-preserved : goal.weigh-loop-rest-preserved
weigh-loop-rest-preserved g t c =
    record {
      size = search (rules, the_lemmas);
      fit = ap (λ e. fits e (g.V.View.scope c.args.view.now)) c.get-rest-in-Minus.ensures ∙ left-Minus (g.V.View.scope c.args.view.now) _ _ _ c.in-Minus.is c.loop-rest.invariant.fit;
      gathers = subst (λ l. Gathers c.args.e.now l c.sum-right-in-Minus.result (g.V.View.sight c.args.view.now)) (sym c.get-rest-in-Minus.ensures)
          (takes c.args.e.now c.loop-rest.rest.now c.in-Minus.left c.in-Minus.part c.loop-rest.right c.sum-right-in-Minus.result c.weigh-in-Minus.result c.negated.result (g.V.View.sight c.args.view.now) c.loop-rest.invariant.gathers c.in-Minus.is (c.weigh-in-Minus.ensures ∙ ap (λ e. cap (measure e (g.V.View.sight c.args.view.now))) c.get-in-Minus.ensures) c.negated.ensures c.sum-right-in-Minus.ensures);
    }

pub weigh-returns-in-Const : goal.weigh-returns-in-Const
weigh-returns-in-Const g t c =
    let f : FitsSigned w64 c.in-Const.n = search rules in
    ends c.args.e.now c.loop-rest.rest.now c.loop-rest.right (Ok c.plain-in-Const.result) c.sum.result (g.V.View.sight c.args.view.now) _ c.loop-rest.invariant.gathers (ap (λ e. measure e (g.V.View.sight c.args.view.now)) c.in-Const.is ∙ measure-Const c.in-Const.n (g.V.View.sight c.args.view.now)) (ap Ok (c.plain-in-Const.ensures ∙ ap (λ n. capped (plain n)) (to_z-of_z w64 c.in-Const.n f))) c.sum.ensures

pub weigh-value-requires : goal.weigh-value-requires
weigh-value-requires g t c =
    name-Var (g.V.View.scope c.args.view.now) _ _ c.in-Var.is c.loop-rest.invariant.fit

pub weigh-returns-in-Var : goal.weigh-returns-in-Var
weigh-returns-in-Var g t c =
    let f : FitsSigned w64 c.value.result = search rules in
    ends c.args.e.now c.loop-rest.rest.now c.loop-rest.right (Ok c.plain-in-Var.result) c.sum-in-Var.result (g.V.View.sight c.args.view.now) _ c.loop-rest.invariant.gathers (ap (λ e. measure e (g.V.View.sight c.args.view.now)) c.in-Var.is ∙ measure-Var c.in-Var.name (g.V.View.sight c.args.view.now)) (ap Ok (c.plain-in-Var.ensures ∙ ap (λ n. capped (plain n)) (to_z-of_z w64 c.value.result f ∙ c.value.ensures))) c.sum-in-Var.ensures

pub weigh-weigh_cell-requires : goal.weigh-weigh_cell-requires
weigh-weigh_cell-requires g t c κs within = (search (rules, the_lemmas), (search rules, cell-At (g.V.View.scope c.args.view.now) _ _ c.in-At.is c.loop-rest.invariant.fit))

pub weigh-returns-in-At : goal.weigh-returns-in-At
weigh-returns-in-At g t c =
    ends c.args.e.now c.loop-rest.rest.now c.loop-rest.right c.weigh_cell.result c.sum-in-At.result (g.V.View.sight c.args.view.now) _ c.loop-rest.invariant.gathers (ap (λ e. measure e (g.V.View.sight c.args.view.now)) c.in-At.is ∙ measure-At c.in-At.cell (g.V.View.sight c.args.view.now)) c.weigh_cell.ensures c.sum-in-At.ensures

pub weigh-weigh-requires-in-Neg : goal.weigh-weigh-requires-in-Neg
weigh-weigh-requires-in-Neg g t c κs within = (search (rules, the_lemmas), (search rules, ap (λ e. fits e (g.V.View.scope c.args.view.now)) c.get-in-Neg.ensures ∙ part-Neg (g.V.View.scope c.args.view.now) _ _ c.in-Neg.is c.loop-rest.invariant.fit))

pub weigh-returns-in-Neg : goal.weigh-returns-in-Neg
weigh-returns-in-Neg g t c =
    ends c.args.e.now c.loop-rest.rest.now c.loop-rest.right c.negated-in-Neg.result c.sum-in-Neg.result (g.V.View.sight c.args.view.now) _ c.loop-rest.invariant.gathers (ap (λ e. measure e (g.V.View.sight c.args.view.now)) c.in-Neg.is ∙ measure-Neg c.in-Neg.part (g.V.View.sight c.args.view.now)) (c.negated-in-Neg.ensures _ (c.weigh-in-Neg.ensures ∙ ap (λ e. cap (measure e (g.V.View.sight c.args.view.now))) c.get-in-Neg.ensures)) c.sum-in-Neg.ensures

pub weigh-weigh-requires-in-Times : goal.weigh-weigh-requires-in-Times
weigh-weigh-requires-in-Times g t c κs within = (search (rules, the_lemmas), (search rules, ap (λ e. fits e (g.V.View.scope c.args.view.now)) c.get-in-Times.ensures ∙ part-Times (g.V.View.scope c.args.view.now) _ _ _ c.in-Times.is c.loop-rest.invariant.fit))

pub weigh-returns-in-Times : goal.weigh-returns-in-Times
weigh-returns-in-Times g t c =
    let f : FitsSigned w64 c.in-Times.factor = search rules in
    ends c.args.e.now c.loop-rest.rest.now c.loop-rest.right c.multiple.result c.sum-in-Times.result (g.V.View.sight c.args.view.now) _ c.loop-rest.invariant.gathers (ap (λ e. measure e (g.V.View.sight c.args.view.now)) c.in-Times.is ∙ measure-Times c.in-Times.factor c.in-Times.part (g.V.View.sight c.args.view.now)) (rw (to_z-of_z w64 c.in-Times.factor f) at (c.multiple.ensures _ (c.weigh-in-Times.ensures ∙ ap (λ e. cap (measure e (g.V.View.sight c.args.view.now))) c.get-in-Times.ensures))) c.sum-in-Times.ensures

pub weigh-weigh-requires-in-Min : goal.weigh-weigh-requires-in-Min
weigh-weigh-requires-in-Min g t c κs within = (search (rules, the_lemmas), (search rules, ap (λ e. fits e (g.V.View.scope c.args.view.now)) c.get-in-Min.ensures ∙ left-Min (g.V.View.scope c.args.view.now) _ _ _ c.in-Min.is c.loop-rest.invariant.fit))

pub weigh-weigh-requires-in-Min-2 : goal.weigh-weigh-requires-in-Min-2
weigh-weigh-requires-in-Min-2 g t c κs within = (search (rules, the_lemmas), (search rules, ap (λ e. fits e (g.V.View.scope c.args.view.now)) c.get-in-Min-2.ensures ∙ right-Min (g.V.View.scope c.args.view.now) _ _ _ c.in-Min.is c.loop-rest.invariant.fit))

pub weigh-returns-in-Min : goal.weigh-returns-in-Min
weigh-returns-in-Min g t c =
    ends c.args.e.now c.loop-rest.rest.now c.loop-rest.right c.lesser.result c.sum-in-Min.result (g.V.View.sight c.args.view.now) _ c.loop-rest.invariant.gathers (ap (λ e. measure e (g.V.View.sight c.args.view.now)) c.in-Min.is ∙ measure-Min c.in-Min.a c.in-Min.b (g.V.View.sight c.args.view.now)) (c.lesser.ensures _ _ (c.weigh-in-Min.ensures ∙ ap (λ e. cap (measure e (g.V.View.sight c.args.view.now))) c.get-in-Min.ensures) (c.weigh-in-Min-2.ensures ∙ ap (λ e. cap (measure e (g.V.View.sight c.args.view.now))) c.get-in-Min-2.ensures)) c.sum-in-Min.ensures

pub weigh-weigh-requires-in-Max : goal.weigh-weigh-requires-in-Max
weigh-weigh-requires-in-Max g t c κs within = (search (rules, the_lemmas), (search rules, ap (λ e. fits e (g.V.View.scope c.args.view.now)) c.get-in-Max.ensures ∙ left-Max (g.V.View.scope c.args.view.now) _ _ _ c.in-Max.is c.loop-rest.invariant.fit))

pub weigh-weigh-requires-in-Max-2 : goal.weigh-weigh-requires-in-Max-2
weigh-weigh-requires-in-Max-2 g t c κs within = (search (rules, the_lemmas), (search rules, ap (λ e. fits e (g.V.View.scope c.args.view.now)) c.get-in-Max-2.ensures ∙ right-Max (g.V.View.scope c.args.view.now) _ _ _ c.in-Max.is c.loop-rest.invariant.fit))

pub weigh-returns-in-Max : goal.weigh-returns-in-Max
weigh-returns-in-Max g t c =
    ends c.args.e.now c.loop-rest.rest.now c.loop-rest.right c.greater.result c.sum-in-Max.result (g.V.View.sight c.args.view.now) _ c.loop-rest.invariant.gathers (ap (λ e. measure e (g.V.View.sight c.args.view.now)) c.in-Max.is ∙ measure-Max c.in-Max.a c.in-Max.b (g.V.View.sight c.args.view.now)) (c.greater.ensures _ _ (c.weigh-in-Max.ensures ∙ ap (λ e. cap (measure e (g.V.View.sight c.args.view.now))) c.get-in-Max.ensures) (c.weigh-in-Max-2.ensures ∙ ap (λ e. cap (measure e (g.V.View.sight c.args.view.now))) c.get-in-Max-2.ensures)) c.sum-in-Max.ensures

pub weigh-weigh-requires-in-Floor : goal.weigh-weigh-requires-in-Floor
weigh-weigh-requires-in-Floor g t c κs within = (search (rules, the_lemmas), (search rules, ap (λ e. fits e (g.V.View.scope c.args.view.now)) c.get-in-Floor.ensures ∙ part-Floor (g.V.View.scope c.args.view.now) _ _ _ c.in-Floor.is c.loop-rest.invariant.fit))

pub weigh-floor-requires : goal.weigh-floor-requires
weigh-floor-requires g t c =
    let f : FitsSigned w64 c.in-Floor.divisor = search rules in
    rw (to_z-of_z w64 c.in-Floor.divisor f) (divisor-Floor (g.V.View.scope c.args.view.now) _ _ _ c.in-Floor.is c.loop-rest.invariant.fit)

pub weigh-returns-in-Floor : goal.weigh-returns-in-Floor
weigh-returns-in-Floor g t c =
    let f : FitsSigned w64 c.in-Floor.divisor = search rules in
    ends c.args.e.now c.loop-rest.rest.now c.loop-rest.right c.floor.result c.sum-in-Floor.result (g.V.View.sight c.args.view.now) _ c.loop-rest.invariant.gathers (ap (λ e. measure e (g.V.View.sight c.args.view.now)) c.in-Floor.is ∙ measure-Floor c.in-Floor.part c.in-Floor.divisor (g.V.View.sight c.args.view.now)) (rw (to_z-of_z w64 c.in-Floor.divisor f) at (c.floor.ensures _ (c.weigh-in-Floor.ensures ∙ ap (λ e. cap (measure e (g.V.View.sight c.args.view.now))) c.get-in-Floor.ensures))) c.sum-in-Floor.ensures

pub weigh-weigh-requires-in-Ceil : goal.weigh-weigh-requires-in-Ceil
weigh-weigh-requires-in-Ceil g t c κs within = (search (rules, the_lemmas), (search rules, ap (λ e. fits e (g.V.View.scope c.args.view.now)) c.get-in-Ceil.ensures ∙ part-Ceil (g.V.View.scope c.args.view.now) _ _ _ c.in-Ceil.is c.loop-rest.invariant.fit))

pub weigh-ceil-requires : goal.weigh-ceil-requires
weigh-ceil-requires g t c =
    let f : FitsSigned w64 c.in-Ceil.divisor = search rules in
    rw (to_z-of_z w64 c.in-Ceil.divisor f) (divisor-Ceil (g.V.View.scope c.args.view.now) _ _ _ c.in-Ceil.is c.loop-rest.invariant.fit)

pub weigh-returns-in-Ceil : goal.weigh-returns-in-Ceil
weigh-returns-in-Ceil g t c =
    let f : FitsSigned w64 c.in-Ceil.divisor = search rules in
    ends c.args.e.now c.loop-rest.rest.now c.loop-rest.right c.ceil.result c.sum-in-Ceil.result (g.V.View.sight c.args.view.now) _ c.loop-rest.invariant.gathers (ap (λ e. measure e (g.V.View.sight c.args.view.now)) c.in-Ceil.is ∙ measure-Ceil c.in-Ceil.part c.in-Ceil.divisor (g.V.View.sight c.args.view.now)) (rw (to_z-of_z w64 c.in-Ceil.divisor f) at (c.ceil.ensures _ (c.weigh-in-Ceil.ensures ∙ ap (λ e. cap (measure e (g.V.View.sight c.args.view.now))) c.get-in-Ceil.ensures))) c.sum-in-Ceil.ensures

pub weigh_cell-eval_subscripts-requires : goal.weigh_cell-eval_subscripts-requires
weigh_cell-eval_subscripts-requires g t c κs within = (search (rules, the_lemmas), (search rules, (_, at-Cell (g.V.View.scope c.args.view.now) c.args.cell.now c.requires)))

pub weigh_cell-cell-requires : goal.weigh_cell-cell-requires
weigh_cell-cell-requires g t c =
    some_extents _ (g.V.View.scope c.args.view.now) _ (at-Cell (g.V.View.scope c.args.view.now) c.args.cell.now c.requires)

pub weigh_cell-returns-in-Some : goal.weigh_cell-returns-in-Some
weigh_cell-returns-in-Some g t c =
    let f : FitsSigned w64 c.in-Some.n = search rules in
    reads c.args.cell.now (g.V.View.sight c.args.view.now) c.in-Ok.at c.in-Some.n c.plain.result (sym c.in-Ok.is ∙ c.eval_subscripts.ensures) (sym c.in-Some.is ∙ c.cell.ensures) (c.plain.ensures ∙ ap (λ n. capped (plain n)) (to_z-of_z w64 c.in-Some.n f))

pub weigh_cell-returns-in-None : goal.weigh_cell-returns-in-None
weigh_cell-returns-in-None g t c =
    is_outside c.args.cell.now (g.V.View.sight c.args.view.now) c.in-Ok.at (sym c.in-Ok.is ∙ c.eval_subscripts.ensures) (sym c.in-None.is ∙ c.cell.ensures)

pub weigh_cell-returns-in-Err : goal.weigh_cell-returns-in-Err
weigh_cell-returns-in-Err g t c =
    has_fault c.args.cell.now (g.V.View.sight c.args.view.now) c.in-Err.fault (sym c.in-Err.is ∙ c.eval_subscripts.ensures)
