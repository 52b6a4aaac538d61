use Rattle.std.proofs.Common.{rules}
use Rattle.std.proofs.lemmas.Int.{to_z-of_z}
use mir.Val.{SFits}
use mir.Syntax.{w128}
use Rattle.nest_core.proofs.Makes.{gives-err}
use Rattle.nest_core.proofs.Judging.{judged_form-ok, judged_form-numbers, judged_form-constant}
use Rattle.nest_core.proofs.form.judge_form.Goals as goal

pub returns-in_err-coefs : goal.returns-in_err-coefs
returns-in_err-coefs c = gives-err _ _ _ _ c.from_residual.ensures (rw c.as_slice.ensures at c.in_err-coefs.ensures) (λ x h. judged_form-numbers _ x h)

pub returns-in_err-constant : goal.returns-in_err-constant
returns-in_err-constant c =
    let z : SFits w128 c.args.form.now.constant = search rules in
    gives-err _ _ _ _ c.from_residual-in_err-constant.ensures (rw c.len.ensures at (simp to_z-of_z at c.in_err-constant.ensures)) (λ x h. judged_form-constant _ _ x (rw c.as_slice.ensures at c.in_ok-coefs.ensures) h)

pub returns : goal.returns
returns c =
    let z : SFits w128 c.args.form.now.constant = search rules in
    let y : SFits w128 c.in_ok-constant.constant = search rules in
    simp to_z-of_z (judged_form-ok _ _ _ (rw c.as_slice.ensures at c.in_ok-coefs.ensures) (rw c.len.ensures at (simp to_z-of_z at c.in_ok-constant.ensures)))
