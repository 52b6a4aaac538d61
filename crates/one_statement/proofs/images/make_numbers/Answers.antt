use Rattle.std.proofs.Common.{rules, pos, get_or}
use Rattle.std.proofs.lemmas.Int.{to_z-of_z}
use mir.Val.{SFits}
use mir.Syntax.{w128}
use Rattle.nest_core.proofs.Rewrites.{numbers-more}
use Rattle.one_statement.proofs.images.make_numbers.Goals as goal

pub loop-var-preserved : goal.loop-var-preserved
loop-var-preserved c =
    let a : SFits w128 (get_or c.args.starts.now c.loop-var.var (pos 0)) = search rules in
    let b : SFits w128 c.in_ok-make_number.field-0 = search rules in
    numbers-more _ _ _ _ _ _ _ c.loop-var-test.true (simp to_z-of_z at c.in_ok-make_number.ensures) (simp to_z-of_z at c.in_ok-push.ensures.ok) c.loop-var.invariant
