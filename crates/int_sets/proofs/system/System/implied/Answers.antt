use Rattle.std.proofs.Common.{rules}
use Rattle.std.proofs.lemmas.Int.{to_z-of_z}
use Rattle.std.proofs.lemmas.Result.{err_from_is_err_and}
use mir.Val.{SFits}
use mir.Syntax.{w128}
use Rattle.int_sets.proofs.Calls.{none-small, implied-large, implied-pushed, implied-stops}
use Rattle.int_sets.proofs.system.System.implied.Goals as goal

pub returns-in-Some : goal.returns-in-Some
returns-in-Some c =
    let k : SFits w128 c.args.row.now.form.constant = search rules in
    let n : SFits w128 c.complement-constant.result = search rules in
    let is = simp to_z-of_z at c.complement-constant.ensures in
    implied-large c.args.self.now c.args.row.now.form c.in-Some.var (rw (c.as_slice.ensures, is) at (simp to_z-of_z at c.in-Some.ensures))

pub negation-requires : goal.negation-requires
negation-requires c =
    let n : SFits w128 c.complement-constant.result = search rules in
    none-small c.args.row.now.form.coefs c.complement-constant.result (rw c.as_slice.ensures at (simp to_z-of_z at c.in_default.ensures))

pub returns-in_err-push : goal.returns-in_err-push
returns-in_err-push c =
    let p = err_from_is_err_and c.from_residual-in_err-push.result c.from_residual-in_err-push.ensures.1 in
    rw (p.1, p.2) (implied-stops c.args.self.now c.args.row.now.form c.push.new.self c.in_err-push.field-0.0 (rw (c.in_ok-system.ensures, c.in_ok-negation.ensures) at c.in_err-push.ensures.answer))

pub returns : goal.returns
returns c =
    let e = rw (c.in_ok-system.ensures, c.in_ok-negation.ensures) at c.in_ok-push.ensures.answer in
    rw (implied-pushed c.args.self.now c.args.row.now.form c.push.new.self e) c.excluded.ensures
