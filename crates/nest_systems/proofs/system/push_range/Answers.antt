use Rattle.std.proofs.Common.{◌≡◌, ◌∷◌, [], ap, ◌∙◌, sym, subst}
use Rattle.int_rows.specs.Systems.{Rows}
use Rattle.int_rows.specs.declared.row.Row.{Row}
use Rattle.nest_systems.specs.Extending.{extended}
use Rattle.nest_systems.specs.Begun.{range_rows}
use Rattle.nest_systems.specs.Spans.{low_row, high_row}
use Rattle.std.specs.Prelude.{None, Option}
use Rattle.nest_systems.specs.declared.range.Span.{Span}
use Rattle.nest_systems.proofs.Extending.{pushed-behind, extended-twice}
use Rattle.nest_systems.proofs.system.push_range.Goals as goal

pub returns-in_ok-push-2-clause-rows : goal.returns-in_ok-push-2-clause-rows
returns-in_ok-push-2-clause-rows c =
    let a = pushed-behind c.args.system.now c.push.new.self _ c.in_ok-push.ensures.answer ∙ ap (λ (r : Row). extended c.args.system.now (r ∷ [])) c.in_ok-low_row.ensures.value in
    let b = pushed-behind c.push.new.self c.push-in-Some.new.self _ c.in_ok-push-2.ensures.answer ∙ ap (λ (r : Row). extended c.push.new.self (r ∷ [])) c.in_ok-high_row.ensures.value in
    let l = low_row c.in-Some.span c.args.form.now c.args.vars in
    let h = high_row c.in-Some.span c.args.form.now None c.args.vars in
    let w = b ∙ ap (λ (s : Rows). extended s (h ∷ [])) a ∙ extended-twice c.args.system.now (l ∷ []) (h ∷ []) in
    subst (λ (o : Option Span). c.push-in-Some.new.self ≡ extended c.args.system.now (range_rows o c.args.form.now None c.args.vars)) (sym c.in-Some.is) w
