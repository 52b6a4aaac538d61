use Rattle.std.proofs.Common.{rules, pos, get_or, refl}
use Rattle.std.proofs.lemmas.Int.{to_z-of_z}
use mir.Val.{SFits}
use mir.Syntax.{w128}
use Rattle.int_rows.specs.Rows.{numbers}
use Rattle.int_rows.specs.Elimination.{sums_small}
use Rattle.int_rows.proofs.RowsLeft.{past-none, combination-small}
use Rattle.int_sets.specs.Views.{form_of, row_of}
use Rattle.int_sets.proofs.Canceling.{canceled-made, canceled-not}
use Rattle.int_sets.proofs.cancel.cancel.Goals as goal

pub reduced-requires : goal.reduced-requires
reduced-requires c =
    let m : SFits w128 c.factors-m.result.0 = search rules in
    let n : SFits w128 c.factors-m.result.1 = search rules in
    let made = simp to_z-of_z at c.in-Ok.ensures in
    let f = form_of c.args.first.now.form in
    let g = form_of c.args.second.now.form in
    rw made.1 (combination-small c.factors-m.result.0 f c.factors-m.result.1 g c.requires.width (past-none (sums_small c.factors-m.result.0 (numbers f) c.factors-m.result.1 (numbers g)) 0 made.0))

pub returns-in_ok-reduced-in-Ok : goal.returns-in_ok-reduced-in-Ok
returns-in_ok-reduced-in-Ok c =
    let m : SFits w128 c.factors-m.result.0 = search rules in
    let n : SFits w128 c.factors-m.result.1 = search rules in
    let a : SFits w128 (get_or c.args.first.now.form.coefs.now c.args.var (pos 0)) = search rules in
    let b : SFits w128 (get_or c.args.second.now.form.coefs.now c.args.var (pos 0)) = search rules in
    let em = simp to_z-of_z at c.factors-m.ensures.first in
    let en = simp to_z-of_z at c.factors-m.ensures.second in
    canceled-made c.args.var (row_of c.args.first.now) (row_of c.args.second.now) _ _ em en c.in-Ok.form _ (simp to_z-of_z at c.in-Ok.ensures) c.in_ok-reduced-in-Ok.ensures

pub returns-in-Err-Refused : goal.returns-in-Err-Refused
returns-in-Err-Refused c =
    let m : SFits w128 c.factors-m.result.0 = search rules in
    let n : SFits w128 c.factors-m.result.1 = search rules in
    let a : SFits w128 (get_or c.args.first.now.form.coefs.now c.args.var (pos 0)) = search rules in
    let b : SFits w128 (get_or c.args.second.now.form.coefs.now c.args.var (pos 0)) = search rules in
    let em = simp to_z-of_z at c.factors-m.ensures.first in
    let en = simp to_z-of_z at c.factors-m.ensures.second in
    let no = rw c.in-Err-Refused.field-0-is at c.in-Err-Refused.ensures in
    (canceled-not c.args.var (row_of c.args.first.now) (row_of c.args.second.now) _ _ em en c.in-Err-Refused.field-0-0 (simp to_z-of_z at no), refl)
