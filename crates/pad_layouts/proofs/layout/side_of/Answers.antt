use Rattle.std.proofs.Common.{rules, ap, sym, ◌∙◌}
use Rattle.std.proofs.lemmas.Int.{to_z-of_z}
use mir.Val.{SFits}
use mir.Syntax.{w64}
use Rattle.pad_layouts.specs.Layouts.{side_of}
use Rattle.pad_layouts.proofs.Tests.{both-some, first-none, second-none}
use Rattle.pad_layouts.proofs.layout.side_of.Goals as goal
use Rattle.pad_layouts.proofs.layout.side_of.Goals.{else-same_three-via-then-same_three+else-is_group, else-same_three-via-else-same_three}

pub returns-then-is_group : goal.returns-then-is_group
returns-then-is_group c =
    let row' : SFits w64 c.args.row = search rules in
    let column' : SFits w64 c.args.column = search rules in
    let r : SFits w64 c.in-Whole.r = search rules in
    let j : SFits w64 c.in-Whole.j = search rules in
    let k : SFits w64 c.in-Whole.k = search rules in
    let n : SFits w64 c.in-Whole.constant = search rules in
    let d : SFits w64 c.in-Whole.divisor = search rules in
    simp to_z-of_z (both-some _ _ c.in-Whole.divisor (simp to_z-of_z at c.if-same_three.ensures) (simp to_z-of_z at c.if-is_group.ensures) ∙ ap (side_of c.args.row c.args.column) (sym c.in-Whole.is))

pub returns-else-same_three : goal.returns-else-same_three
returns-else-same_three c =
    let row' : SFits w64 c.args.row = search rules in
    let column' : SFits w64 c.args.column = search rules in
    let r : SFits w64 c.in-Whole.r = search rules in
    let j : SFits w64 c.in-Whole.j = search rules in
    let k : SFits w64 c.in-Whole.k = search rules in
    let n : SFits w64 c.in-Whole.constant = search rules in
    let d : SFits w64 c.in-Whole.divisor = search rules in
    elim c.else-same_three.branch [
      | else-same_three-via-then-same_three+else-is_group w ↦ second-none _ _ c.in-Whole.divisor (simp to_z-of_z at w.if-is_group.ensures) ∙ ap (side_of c.args.row c.args.column) (sym c.in-Whole.is)
      | else-same_three-via-else-same_three w ↦ first-none _ _ c.in-Whole.divisor (simp to_z-of_z at w.if-same_three.ensures) ∙ ap (side_of c.args.row c.args.column) (sym c.in-Whole.is)
    ]
