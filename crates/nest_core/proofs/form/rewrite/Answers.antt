use Rattle.std.proofs.Common.{rules, ◌≡◌, ◌+◌, ◌-◌, length, arith, sym, ap, ◌∙◌, take, drop}
use Rattle.std.proofs.lemmas.Int.{to_z-of_z}
use mir.Val.{SFits}
use mir.Syntax.{w128}
use Rattle.nest_core.specs.Forms.{lifted, level_coefs}
use Rattle.nest_core.proofs.Makes.{gives-err}
use Rattle.nest_core.proofs.Rewrites.{rewritten-ok, rewritten-numbers, levels_at, rewritten-constant}
use Rattle.nest_core.proofs.form.rewrite.Goals as goal

pub returns-in_err-numbers : goal.returns-in_err-numbers
returns-in_err-numbers c =
    let width : c.args.frame.params + c.args.frame.levels - c.args.frame.params ≡ c.args.frame.levels = omega arith in
    let a : take (c.args.frame.params + c.args.frame.levels - c.args.frame.params) (drop c.args.frame.params c.as_slice-coefs.result.now) ≡ level_coefs c.args.frame c.args.form.now.coefs = levels_at _ _ _ _ width c.as_slice-coefs.ensures in
    let b : c.as_slice.result.now ≡ lifted c.args.frame c.args.form.now.coefs = rw c.as_slice-coefs.ensures at (c.as_slice.ensures ∙ c.in_ok-starts.ensures) in
    gives-err _ _ _ _ c.from_residual-in_err-numbers.ensures c.in_err-numbers.ensures
    (λ x h. rewritten-numbers _ _ _ _ _ x a b h)

pub returns-in_err-constant : goal.returns-in_err-constant
returns-in_err-constant c =
    let z : SFits w128 c.args.form.now.constant = search rules in
    let width : c.args.frame.params + c.args.frame.levels - c.args.frame.params ≡ c.args.frame.levels = omega arith in
    let a : take (c.args.frame.params + c.args.frame.levels - c.args.frame.params) (drop c.args.frame.params c.as_slice-coefs.result.now) ≡ level_coefs c.args.frame c.args.form.now.coefs = levels_at _ _ _ _ width c.as_slice-coefs.ensures in
    let b : c.as_slice.result.now ≡ lifted c.args.frame c.args.form.now.coefs = rw c.as_slice-coefs.ensures at (c.as_slice.ensures ∙ c.in_ok-starts.ensures) in
    let same = c.len.ensures ∙ ap length (sym c.as_slice.ensures) in
    let g = rw same at (simp to_z-of_z at c.in_err-constant.ensures) in
    gives-err _ _ _ _ c.from_residual-in_err-constant.ensures g
    (λ x h. rewritten-constant _ _ _ _ _ _ x a b c.in_ok-numbers.ensures h)

pub returns : goal.returns
returns c =
    let z : SFits w128 c.args.form.now.constant = search rules in
    let y : SFits w128 c.in_ok-constant.constant = search rules in
    let width : c.args.frame.params + c.args.frame.levels - c.args.frame.params ≡ c.args.frame.levels = omega arith in
    let a : take (c.args.frame.params + c.args.frame.levels - c.args.frame.params) (drop c.args.frame.params c.as_slice-coefs.result.now) ≡ level_coefs c.args.frame c.args.form.now.coefs = levels_at _ _ _ _ width c.as_slice-coefs.ensures in
    let b : c.as_slice.result.now ≡ lifted c.args.frame c.args.form.now.coefs = rw c.as_slice-coefs.ensures at (c.as_slice.ensures ∙ c.in_ok-starts.ensures) in
    let same = c.len.ensures ∙ ap length (sym c.as_slice.ensures) in
    let g = rw same at (simp to_z-of_z at c.in_ok-constant.ensures) in
    simp to_z-of_z (rewritten-ok _ _ _ _ _ _ _ a b c.in_ok-numbers.ensures g)
