use Rattle.std.proofs.Common.{rules, ◌≡◌, ◌-◌, length, sym, ap, ◌∙◌, take, drop}
use Rattle.std.proofs.lemmas.Bool.{eqb-true}
use Rattle.std.proofs.lemmas.Int.{to_z-of_z}
use mir.Val.{SFits}
use mir.Syntax.{w128}
use Rattle.nest_core.specs.Forms.{level_coefs, lifted}
use Rattle.nest_core.proofs.Makes.{gives-err}
use Rattle.nest_core.proofs.Rewrites.{rewritten-ok, rewritten-numbers, rewritten-constant}
use Rattle.one_statement.specs.Images.{frame_of, image_of, old_vars}
use Rattle.one_statement.proofs.Replaced.{replaced_at}
use Rattle.one_statement.proofs.images.make_form.Goals as goal

pub returns-in_err-numbers : goal.returns-in_err-numbers
unfolding image_of
returns-in_err-numbers c =
    let w : length c.args.form.now.coefs ≡ old_vars c.args.images.now = eqb-true _ _ c.requires.width in
    let a : take (length c.as_slice-coefs.result.now - c.args.images.now.params) (drop c.args.images.now.params c.as_slice-coefs.result.now) ≡ level_coefs (frame_of c.args.images.now) c.args.form.now.coefs = replaced_at c.args.images.now _ _ c.as_slice-coefs.ensures w in
    let b : c.as_slice.result.now ≡ lifted (frame_of c.args.images.now) c.args.form.now.coefs = rw c.as_slice-coefs.ensures at (c.as_slice.ensures ∙ c.in_ok-starts.ensures) in
    gives-err _ _ _ _ c.from_residual-in_err-numbers.ensures (rw c.as_slice-forms.ensures at c.in_err-numbers.ensures)
    (λ x h. rewritten-numbers _ _ _ _ _ x a b h)

pub returns-in_err-constant : goal.returns-in_err-constant
unfolding image_of
returns-in_err-constant c =
    let z : SFits w128 c.args.form.now.constant = search rules in
    let w : length c.args.form.now.coefs ≡ old_vars c.args.images.now = eqb-true _ _ c.requires.width in
    let a : take (length c.as_slice-coefs.result.now - c.args.images.now.params) (drop c.args.images.now.params c.as_slice-coefs.result.now) ≡ level_coefs (frame_of c.args.images.now) c.args.form.now.coefs = replaced_at c.args.images.now _ _ c.as_slice-coefs.ensures w in
    let b : c.as_slice.result.now ≡ lifted (frame_of c.args.images.now) c.args.form.now.coefs = rw c.as_slice-coefs.ensures at (c.as_slice.ensures ∙ c.in_ok-starts.ensures) in
    let same = c.len.ensures ∙ ap length (sym c.as_slice.ensures) in
    let g = rw (same, c.as_slice-forms.ensures) at (simp to_z-of_z at c.in_err-constant.ensures) in
    gives-err _ _ _ _ c.from_residual-in_err-constant.ensures g
    (λ x h. rewritten-constant _ _ _ _ _ _ x a b (rw c.as_slice-forms.ensures at c.in_ok-numbers.ensures) h)

pub returns : goal.returns
unfolding image_of
returns c =
    let z : SFits w128 c.args.form.now.constant = search rules in
    let y : SFits w128 c.in_ok-constant.constant = search rules in
    let w : length c.args.form.now.coefs ≡ old_vars c.args.images.now = eqb-true _ _ c.requires.width in
    let a : take (length c.as_slice-coefs.result.now - c.args.images.now.params) (drop c.args.images.now.params c.as_slice-coefs.result.now) ≡ level_coefs (frame_of c.args.images.now) c.args.form.now.coefs = replaced_at c.args.images.now _ _ c.as_slice-coefs.ensures w in
    let b : c.as_slice.result.now ≡ lifted (frame_of c.args.images.now) c.args.form.now.coefs = rw c.as_slice-coefs.ensures at (c.as_slice.ensures ∙ c.in_ok-starts.ensures) in
    let same = c.len.ensures ∙ ap length (sym c.as_slice.ensures) in
    let g = rw (same, c.as_slice-forms.ensures) at (simp to_z-of_z at c.in_ok-constant.ensures) in
    simp to_z-of_z (rewritten-ok _ _ _ _ _ _ _ a b (rw c.as_slice-forms.ensures at c.in_ok-numbers.ensures) g)
