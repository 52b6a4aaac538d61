use Rattle.std.proofs.Common.{rules}
use Rattle.std.proofs.lemmas.Int.{to_z-of_z}
use mir.Val.{SFits}
use mir.Syntax.{w128}
use Rattle.affine_moves.proofs.levels.form_of.Goals as goal

pub returns : goal.returns
returns c =
    let s1 : SFits w128 c.args.sum.r = search rules in
    let s2 : SFits w128 c.args.sum.j = search rules in
    let s3 : SFits w128 c.args.sum.k = search rules in
    let s4 : SFits w128 c.args.sum.constant = search rules in
    simp to_z-of_z at c.whole_form.ensures
