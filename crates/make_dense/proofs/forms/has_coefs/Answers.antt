use Rattle.std.proofs.Common.{rules, pos, get_or}
use Rattle.std.proofs.lemmas.Int.{to_z-of_z}
use mir.Val.{SFits}
use mir.Syntax.{w128}
use Rattle.make_dense.proofs.Found.{coefs-more, coefs-not}
use Rattle.make_dense.proofs.forms.has_coefs.Goals as goal

pub loop-var-preserved : goal.loop-var-preserved
loop-var-preserved c =
    let a : SFits w128 (get_or c.args.coefs.now c.loop-var.var (pos 0)) = search rules in
    coefs-more c.args.x c.args.y c.loop-var.var c.args.coefs.now _ c.loop-var-test.true (simp to_z-of_z at c.if-not-is_coef.ensures) c.loop-var.invariant

pub returns-then-not-is_coef : goal.returns-then-not-is_coef
returns-then-not-is_coef c =
    let a : SFits w128 (get_or c.args.coefs.now c.loop-var.var (pos 0)) = search rules in
    coefs-not c.args.x c.args.y c.loop-var.var c.args.coefs.now _ c.loop-var-test.true (simp to_z-of_z at c.if-not-is_coef.ensures) c.loop-var.invariant
