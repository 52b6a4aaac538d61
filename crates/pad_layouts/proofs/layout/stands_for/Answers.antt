use Rattle.std.proofs.Common.{rules, ap, sym, ◌∙◌}
use Rattle.std.proofs.lemmas.Int.{to_z-of_z}
use mir.Val.{SFits}
use mir.Syntax.{w64}
use Rattle.pad_layouts.specs.Layouts.{stands_for}
use Rattle.pad_layouts.proofs.Tests.{and-true, and-false}
use Rattle.pad_layouts.proofs.layout.stands_for.Goals as goal

pub returns-then-same_three : goal.returns-then-same_three
returns-then-same_three c =
    let row' : SFits w64 c.args.row = search rules in
    let column' : SFits w64 c.args.column = search rules in
    let entry' : SFits w64 c.args.entry = search rules in
    let r : SFits w64 c.in-Whole.r = search rules in
    let j : SFits w64 c.in-Whole.j = search rules in
    let k : SFits w64 c.in-Whole.k = search rules in
    let n : SFits w64 c.in-Whole.constant = search rules in
    let d : SFits w64 c.in-Whole.divisor = search rules in
    and-true _ _ _ (simp to_z-of_z at c.if-same_three.ensures) (simp to_z-of_z at c.is_undivided.ensures) ∙ ap (stands_for c.args.row c.args.column c.args.entry) (sym c.in-Whole.is)

pub returns-else-same_three : goal.returns-else-same_three
returns-else-same_three c =
    let row' : SFits w64 c.args.row = search rules in
    let column' : SFits w64 c.args.column = search rules in
    let entry' : SFits w64 c.args.entry = search rules in
    let r : SFits w64 c.in-Whole.r = search rules in
    let j : SFits w64 c.in-Whole.j = search rules in
    let k : SFits w64 c.in-Whole.k = search rules in
    let n : SFits w64 c.in-Whole.constant = search rules in
    let d : SFits w64 c.in-Whole.divisor = search rules in
    and-false _ _ _ c.if-same_three.false (simp to_z-of_z at c.same_three.ensures) ∙ ap (stands_for c.args.row c.args.column c.args.entry) (sym c.in-Whole.is)
