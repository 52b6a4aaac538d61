use Rattle.std.proofs.Common.{◌≡◌, ◌++◌, ap, ◌∙◌, refl, rules, w64, FitsSigned}
use Rattle.std.specs.Prelude.{codes}
use Rattle.std.specs.Fmt.{signed_decimal}
use Rattle.std.proofs.lemmas.Int.{to_z-of_z}
use Rattle.std.proofs.lemmas.Result.{on_ok_weaker}
use Rattle.c_tree.specs.declared.index.Index.{the_lemmas}
use Rattle.c_print.specs.Index.{printed, subscripts_text}
use Rattle.c_print.specs.Printed.{as_part, as_factor, bracketed}
use Rattle.c_print.proofs.Equations.{text_plus, text_minus, text_times, text_min, text_max, cell_is, subscripts_two, subscripts_three}
use Rattle.c_print.proofs.Pieces.{two, three, five}
use Rattle.c_print.proofs.index.+index.Goals as goal

pub print_index-loop-rest-preserved-in-Plus : goal.print_index-loop-rest-preserved-in-Plus
print_index-loop-rest-preserved-in-Plus t c =
    let text : (printed c.loop-rest.rest.now).text ≡ (printed c.get-rest.result.now).text ++ codes "+" ++ (as_part (printed c.get.result.now)).text = search (rules, text_plus) in
    record {
      size = search (rules, the_lemmas);
      text = three (printed c.get-rest.result.now).text (codes "+") (as_part (printed c.get.result.now)).text c.loop-rest.out c.in_ok-print_part-in-Plus.ensures c.in_ok-put-in-Plus.ensures refl text c.loop-rest.invariant.text;
    }

pub print_index-loop-rest-preserved : goal.print_index-loop-rest-preserved
print_index-loop-rest-preserved t c =
    let text : (printed c.loop-rest.rest.now).text ≡ (printed c.get-rest-in-Minus.result.now).text ++ codes "-" ++ (as_part (printed c.get-in-Minus.result.now)).text = search (rules, text_minus) in
    record {
      size = search (rules, the_lemmas);
      text = three (printed c.get-rest-in-Minus.result.now).text (codes "-") (as_part (printed c.get-in-Minus.result.now)).text c.loop-rest.out c.in_ok-print_part-in-Minus.ensures c.in_ok-put-in-Minus.ensures refl text c.loop-rest.invariant.text;
    }

pub print_index-returns-in-Times : goal.print_index-returns-in-Times
print_index-returns-in-Times t c =
    let f : FitsSigned w64 c.in-Times.n = search rules in
    let text : (printed c.loop-rest.rest.now).text ≡ signed_decimal c.in-Times.n ++ codes "*" ++ (as_factor (printed c.get-in-Times.result.now)).text = search (rules, text_times) in
    on_ok_weaker c.put_number-in-Times.result
    (λ put. three (signed_decimal c.in-Times.n) (codes "*") (as_factor (printed c.get-in-Times.result.now)).text c.loop-rest.out c.in_ok-print_factor-in-Times.ensures c.in_ok-put-in-Times.ensures
    (put ∙ ap (λ n. signed_decimal n ++ c.put-in-Times.new.self) (to_z-of_z w64 c.in-Times.n f)) text c.loop-rest.invariant.text)
    c.put_number-in-Times.ensures

pub print_index-returns-in-Min : goal.print_index-returns-in-Min
print_index-returns-in-Min t c =
    let a = (printed c.get-in-Min-2.result.now).text in
    let b = (printed c.get-in-Min.result.now).text in
    let text : (printed c.loop-rest.rest.now).text ≡ codes "min(" ++ (printed c.get-in-Min-2.result.now).text ++ codes ", " ++ (printed c.get-in-Min.result.now).text ++ codes ")" = search (rules, text_min) in
    on_ok_weaker c.put-in-Min-3.result
    (λ put. five (codes "min(") a (codes ", ") b (codes ")") c.loop-rest.out c.in_ok-put-in-Min.ensures c.in_ok-print_index-in-Min.ensures c.in_ok-put-in-Min-2.ensures c.in_ok-print_index-in-Min-2.ensures put text c.loop-rest.invariant.text)
    c.put-in-Min-3.ensures

pub print_index-returns-in-Max : goal.print_index-returns-in-Max
print_index-returns-in-Max t c =
    let a = (printed c.get-in-Max-2.result.now).text in
    let b = (printed c.get-in-Max.result.now).text in
    let text : (printed c.loop-rest.rest.now).text ≡ codes "max(" ++ (printed c.get-in-Max-2.result.now).text ++ codes ", " ++ (printed c.get-in-Max.result.now).text ++ codes ")" = search (rules, text_max) in
    on_ok_weaker c.put-in-Max-3.result
    (λ put. five (codes "max(") a (codes ", ") b (codes ")") c.loop-rest.out c.in_ok-put-in-Max.ensures c.in_ok-print_index-in-Max.ensures c.in_ok-put-in-Max-2.ensures c.in_ok-print_index-in-Max-2.ensures put text c.loop-rest.invariant.text)
    c.put-in-Max-3.ensures

pub print_cell-returns : goal.print_cell-returns
print_cell-returns t c =
    on_ok_weaker c.put.result
    (λ put. two c.args.cell.now.array (subscripts_text c.args.cell.now.at) c.args.out.now c.in_ok-print_subscripts.ensures
    (put ∙ ap (λ z. z ++ c.print_subscripts.new.out) c.bytes.ensures.bytes) (cell_is c.args.cell.now) refl)
    c.put.ensures

pub print_subscripts-returns-in_ok-print_subscript-in-Two : goal.print_subscripts-returns-in_ok-print_subscript-in-Two
print_subscripts-returns-in_ok-print_subscript-in-Two t c =
    let text : subscripts_text c.args.at.now ≡ bracketed (printed c.get-in-Two-2.result.now) ++ bracketed (printed c.get-in-Two.result.now) = search (rules, subscripts_two) in
    on_ok_weaker c.print_subscript-in-Two-2.result
    (λ put. two (bracketed (printed c.get-in-Two-2.result.now)) (bracketed (printed c.get-in-Two.result.now)) c.args.out.now c.in_ok-print_subscript-in-Two.ensures put text refl)
    c.print_subscript-in-Two-2.ensures

pub print_subscripts-returns-in_ok-print_subscript-in-Three-2 : goal.print_subscripts-returns-in_ok-print_subscript-in-Three-2
print_subscripts-returns-in_ok-print_subscript-in-Three-2 t c =
    let text : subscripts_text c.args.at.now ≡ bracketed (printed c.get-in-Three-3.result.now) ++ bracketed (printed c.get-in-Three-2.result.now) ++ bracketed (printed c.get-in-Three.result.now) = search (rules, subscripts_three) in
    on_ok_weaker c.print_subscript-in-Three-3.result
    (λ put. three (bracketed (printed c.get-in-Three-3.result.now)) (bracketed (printed c.get-in-Three-2.result.now)) (bracketed (printed c.get-in-Three.result.now)) c.args.out.now c.in_ok-print_subscript-in-Three.ensures c.in_ok-print_subscript-in-Three-2.ensures put text refl)
    c.print_subscript-in-Three-3.ensures
