use Rattle.std.proofs.Common.{rules, ◌≡◌, ◌∙◌, refl, sym, ap, true, false}
use Rattle.std.specs.Prelude.{Some, None}
use Rattle.nest_tree.specs.declared.body.Body.{the_lemmas}
use Rattle.nest_core.proofs.Bodies.{over-At, over-Plus, over-Minus, over-Times}
use Rattle.nest_limits.specs.Brackets.{Printed, printed, is_sum, left_room, summand_fits, factor_fits}
use Rattle.nest_limits.proofs.Printing.{printed-Const, printed-At, printed-Plus, printed-Minus, printed-Times, sum_stops, sum_goes, factor_stops, left_stops, product_goes}
use Rattle.nest_limits.proofs.body.+bodies.Goals as goal

pub body_fits-returns-in-Const : goal.body_fits-returns-in-Const
body_fits-returns-in-Const t c = sym (ap (λ (p : Printed). p.fits c.loop-rest.inside) (printed-Const _ _ _ _ c.in-Const.is)) ∙ c.loop-rest.invariant.same

pub body_fits-access_fits-requires-clause-width : goal.body_fits-access_fits-requires-clause-width
body_fits-access_fits-requires-clause-width t c = over-At _ _ _ c.in-At.is c.loop-rest.invariant.over

pub body_fits-returns-in-At : goal.body_fits-returns-in-At
body_fits-returns-in-At t c = c.access_fits.ensures ∙ (sym (ap (λ (p : Printed). p.fits c.loop-rest.inside) (printed-At _ _ _ _ c.in-At.is)) ∙ c.loop-rest.invariant.same)

pub body_fits-summand_fits-requires : goal.body_fits-summand_fits-requires
body_fits-summand_fits-requires t c =
    let o = over-Plus _ _ _ _ c.in-Plus.is c.loop-rest.invariant.over in
    (search (rules, the_lemmas), (rw c.get.ensures o.1, c.requires.terms))

pub body_fits-returns-then-not-summand_fits : goal.body_fits-returns-then-not-summand_fits
body_fits-returns-then-not-summand_fits t c =
    let no : summand_fits (printed c.args.first c.args.terms.now c.get.result.now) c.loop-rest.inside ≡ false = search (rules) in
    sym (sum_stops _ _ _ _ c.in-Plus.b _ _ _ refl c.get.ensures (printed-Plus _ _ _ _ _ c.in-Plus.is) no) ∙ c.loop-rest.invariant.same

pub body_fits-loop-rest-preserved-in-Plus : goal.body_fits-loop-rest-preserved-in-Plus
body_fits-loop-rest-preserved-in-Plus t c =
    let o = over-Plus _ _ _ _ c.in-Plus.is c.loop-rest.invariant.over in
    let yes : summand_fits (printed c.args.first c.args.terms.now c.get.result.now) c.loop-rest.inside ≡ true = search (rules) in
    record {
      size = search (rules, the_lemmas);
      over = rw c.get-rest.ensures o.0;
      same = sum_goes _ _ _ _ _ _ _ _ c.get-rest.ensures c.get.ensures (printed-Plus _ _ _ _ _ c.in-Plus.is) yes ∙ c.loop-rest.invariant.same;
    }

pub body_fits-summand_fits-requires-in-Minus : goal.body_fits-summand_fits-requires-in-Minus
body_fits-summand_fits-requires-in-Minus t c =
    let o = over-Minus _ _ _ _ c.in-Minus.is c.loop-rest.invariant.over in
    (search (rules, the_lemmas), (rw c.get-in-Minus.ensures o.1, c.requires.terms))

pub body_fits-returns-then-not-summand_fits-2 : goal.body_fits-returns-then-not-summand_fits-2
body_fits-returns-then-not-summand_fits-2 t c =
    let no : summand_fits (printed c.args.first c.args.terms.now c.get-in-Minus.result.now) c.loop-rest.inside ≡ false = search (rules) in
    sym (sum_stops _ _ _ _ c.in-Minus.b _ _ _ refl c.get-in-Minus.ensures (printed-Minus _ _ _ _ _ c.in-Minus.is) no) ∙ c.loop-rest.invariant.same

pub body_fits-loop-rest-preserved-in-Minus : goal.body_fits-loop-rest-preserved-in-Minus
body_fits-loop-rest-preserved-in-Minus t c =
    let o = over-Minus _ _ _ _ c.in-Minus.is c.loop-rest.invariant.over in
    let yes : summand_fits (printed c.args.first c.args.terms.now c.get-in-Minus.result.now) c.loop-rest.inside ≡ true = search (rules) in
    record {
      size = search (rules, the_lemmas);
      over = rw c.get-rest-in-Minus.ensures o.0;
      same = sum_goes _ _ _ _ _ _ _ _ c.get-rest-in-Minus.ensures c.get-in-Minus.ensures (printed-Minus _ _ _ _ _ c.in-Minus.is) yes ∙ c.loop-rest.invariant.same;
    }

pub body_fits-factor_fits-requires : goal.body_fits-factor_fits-requires
body_fits-factor_fits-requires t c =
    let o = over-Times _ _ _ _ c.in-Times.is c.loop-rest.invariant.over in
    (search (rules, the_lemmas), (rw c.get-in-Times.ensures o.1, c.requires.terms))

pub body_fits-returns-then-not-factor_fits : goal.body_fits-returns-then-not-factor_fits
body_fits-returns-then-not-factor_fits t c =
    let no : factor_fits (printed c.args.first c.args.terms.now c.get-in-Times.result.now) c.loop-rest.inside ≡ false = search (rules) in
    sym (factor_stops _ _ _ _ c.in-Times.b _ _ _ refl c.get-in-Times.ensures (printed-Times _ _ _ _ _ c.in-Times.is) no) ∙ c.loop-rest.invariant.same

pub body_fits-returns-in_default : goal.body_fits-returns-in_default
body_fits-returns-in_default t c =
    let none : left_room (is_sum (printed c.args.first c.args.terms.now c.get-in-Times-2.result.now).level) c.loop-rest.inside ≡ None = search (rules) in
    sym (left_stops _ _ _ _ _ _ _ _ c.get-in-Times-2.ensures c.get-in-Times.ensures (printed-Times _ _ _ _ _ c.in-Times.is) none) ∙ c.loop-rest.invariant.same

pub body_fits-loop-rest-preserved : goal.body_fits-loop-rest-preserved
body_fits-loop-rest-preserved t c =
    let o = over-Times _ _ _ _ c.in-Times.is c.loop-rest.invariant.over in
    let yes : factor_fits (printed c.args.first c.args.terms.now c.get-in-Times.result.now) c.loop-rest.inside ≡ true = search (rules) in
    let some : left_room (is_sum (printed c.args.first c.args.terms.now c.get-in-Times-2.result.now).level) c.loop-rest.inside ≡ Some c.in-Some.left = search (rules) in
    let rest : c.get-rest-in-Times.result.now ≡ c.get-in-Times-2.result.now = c.get-rest-in-Times.ensures ∙ sym c.get-in-Times-2.ensures in
    record {
      size = search (rules, the_lemmas);
      over = rw c.get-rest-in-Times.ensures o.0;
      same = ap (λ v. (printed c.args.first c.args.terms.now v).fits c.in-Some.left) rest ∙ (product_goes _ _ _ _ _ _ _ _ c.get-in-Times-2.ensures c.get-in-Times.ensures (printed-Times _ _ _ _ _ c.in-Times.is) _ yes some ∙ c.loop-rest.invariant.same);
    }
