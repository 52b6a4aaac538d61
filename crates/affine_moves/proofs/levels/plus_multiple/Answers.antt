use Rattle.std.proofs.lemmas.Int.{to_z-of_z}
use mir.Val.{SFits}
use mir.Syntax.{w32}
use Rattle.affine_moves.proofs.Summing.{plus_multiple-some}
use Rattle.affine_moves.proofs.levels.plus_multiple.Goals as goal

pub returns-in-Some-clause-value : goal.returns-in-Some-clause-value
returns-in-Some-clause-value c =
    let f : SFits w32 c.args.coef = c.ranges.coef in
    let n = simp to_z-of_z at c.if-is_zero.ensures in
    let a = simp to_z-of_z at c.added.ensures.value in
    plus_multiple-some _ c.args.coef _ c.in-Some.more _ n c.in-Some.ensures.value a
