use Rattle.std.proofs.Common.{◌≡◌, ◌++◌, ap, ◌∙◌, refl, rules}
use Rattle.std.specs.Prelude.{codes}
use Rattle.std.proofs.lemmas.Result.{on_ok_weaker}
use Rattle.c_tree.specs.declared.data.Expr.{the_lemmas}
use Rattle.c_print.specs.Index.{cell_text}
use Rattle.c_print.specs.Data.{data_printed}
use Rattle.c_print.specs.Printed.{as_part, as_factor, in_parentheses}
use Rattle.c_print.proofs.DataEquations.{data_plus, data_minus, data_times}
use Rattle.c_print.proofs.Pieces.{three}
use Rattle.c_print.proofs.data.+data.Goals as goal

pub print_data-loop-rest-preserved-in-Plus : goal.print_data-loop-rest-preserved-in-Plus
print_data-loop-rest-preserved-in-Plus t c =
    let text : (data_printed cell_text c.loop-rest.rest.now).text ≡ (data_printed cell_text c.get-rest.result.now).text ++ codes " + " ++ (as_part (data_printed cell_text c.get.result.now)).text = search (rules, data_plus) in
    record {
      size = search (rules, the_lemmas);
      text = three (data_printed cell_text c.get-rest.result.now).text (codes " + ") (as_part (data_printed cell_text c.get.result.now)).text c.loop-rest.out c.in_ok-print_part-in-Plus.ensures c.in_ok-put-in-Plus.ensures refl text c.loop-rest.invariant.text;
    }

pub print_data-loop-rest-preserved-in-Minus : goal.print_data-loop-rest-preserved-in-Minus
print_data-loop-rest-preserved-in-Minus t c =
    let text : (data_printed cell_text c.loop-rest.rest.now).text ≡ (data_printed cell_text c.get-rest-in-Minus.result.now).text ++ codes " - " ++ (as_part (data_printed cell_text c.get-in-Minus.result.now)).text = search (rules, data_minus) in
    record {
      size = search (rules, the_lemmas);
      text = three (data_printed cell_text c.get-rest-in-Minus.result.now).text (codes " - ") (as_part (data_printed cell_text c.get-in-Minus.result.now)).text c.loop-rest.out c.in_ok-print_part-in-Minus.ensures c.in_ok-put-in-Minus.ensures refl text c.loop-rest.invariant.text;
    }

pub print_data-returns-then-needs_parentheses : goal.print_data-returns-then-needs_parentheses
print_data-returns-then-needs_parentheses t c =
    let text : (data_printed cell_text c.loop-rest.rest.now).text ≡ (as_part (data_printed cell_text c.get-left.result.now)).text ++ codes " * " ++ (as_factor (data_printed cell_text c.get-in-Times.result.now)).text = search (rules, data_times) in
    let whole = text ∙ ap (λ p. p.text ++ codes " * " ++ (as_factor (data_printed cell_text c.get-in-Times.result.now)).text) (c.needs_parentheses.ensures.needs c.if-needs_parentheses.true) in
    on_ok_weaker c.print_in_parentheses.result
    (λ put. three (in_parentheses (data_printed cell_text c.get-left.result.now)).text (codes " * ") (as_factor (data_printed cell_text c.get-in-Times.result.now)).text c.loop-rest.out c.in_ok-print_factor-in-Times.ensures c.in_ok-put-in-Times.ensures put whole c.loop-rest.invariant.text)
    c.print_in_parentheses.ensures

pub print_data-loop-rest-preserved : goal.print_data-loop-rest-preserved
print_data-loop-rest-preserved t c =
    let text : (data_printed cell_text c.loop-rest.rest.now).text ≡ (as_part (data_printed cell_text c.get-left.result.now)).text ++ codes " * " ++ (as_factor (data_printed cell_text c.get-in-Times.result.now)).text = search (rules, data_times) in
    let whole = text ∙ ap (λ p. p.text ++ codes " * " ++ (as_factor (data_printed cell_text c.get-in-Times.result.now)).text) (c.needs_parentheses.ensures.needs_none c.if-needs_parentheses.false) in
    record {
      size = search (rules, the_lemmas);
      text = three (data_printed cell_text c.get-left.result.now).text (codes " * ") (as_factor (data_printed cell_text c.get-in-Times.result.now)).text c.loop-rest.out c.in_ok-print_factor-in-Times.ensures c.in_ok-put-in-Times.ensures refl whole c.loop-rest.invariant.text;
    }
