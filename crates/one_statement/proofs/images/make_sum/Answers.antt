use Rattle.std.proofs.Common.{rules, ◌<◌, ◌≤◌, pos, get_or, length, sym, ◌∙◌}
use Rattle.std.proofs.lemmas.Int.{to_z-of_z}
use mir.Val.{SFits}
use mir.Syntax.{w128}
use Rattle.nest_core.proofs.Sums.{sums-more, sums-large, sums-end, small_number, judged-not}
use Rattle.one_statement.proofs.images.make_sum.Goals as goal

pub returns-in-None : goal.returns-in-None
returns-in-None c =
    let s : SFits w128 c.args.start = search rules in
    let a : SFits w128 (get_or c.args.coefs.now c.loop-i.i (pos 0)) = search rules in
    let b : SFits w128 c.number_at.result = search rules in
    let h : c.loop-i.i < length c.args.coefs.now = search rules in
    let g : c.loop-i.i < length c.args.forms.now = search rules in
    let m = rw c.number_at.ensures at (simp to_z-of_z at c.in-None.ensures) in
    sums-large _ _ _ _ _ _ c.index-forms-i.result h g c.index-forms-i.is m (simp to_z-of_z at c.loop-i.invariant) (sym (simp to_z-of_z at c.if-not-is_small.ensures))

pub loop-i-preserved : goal.loop-i-preserved
loop-i-preserved c =
    let s : SFits w128 c.args.start = search rules in
    let a : SFits w128 (get_or c.args.coefs.now c.loop-i.i (pos 0)) = search rules in
    let b : SFits w128 c.number_at.result = search rules in
    let p : SFits w128 c.in-Some.summand = search rules in
    let h : c.loop-i.i < length c.args.coefs.now = search rules in
    let g : c.loop-i.i < length c.args.forms.now = search rules in
    let m = rw c.number_at.ensures at (simp to_z-of_z at c.in-Some.ensures) in
    let n = simp to_z-of_z at c.add-in-Some.ensures in
    rw n (simp to_z-of_z (sums-more _ _ _ _ _ _ c.index-forms-i.result _ h g c.index-forms-i.is m (simp to_z-of_z at c.loop-i.invariant)))

pub returns : goal.returns
returns c =
    let s : SFits w128 c.args.start = search rules in
    let h : length c.args.coefs.now ≤ c.loop-i.i = search rules in
    c.number.ensures ∙ sums-end _ _ _ _ _ _ h (simp to_z-of_z at c.loop-i.invariant) (sym (simp to_z-of_z at c.if-not-is_small.ensures))

pub returns-then-not-is_small : goal.returns-then-not-is_small
returns-then-not-is_small c =
    let s : SFits w128 c.args.start = search rules in
    sym (judged-not _ _ (sym (simp to_z-of_z at c.if-not-is_small.ensures)))

pub add-requires-in-Some-clause-number : goal.add-requires-in-Some-clause-number
add-requires-in-Some-clause-number c =
    let a : SFits w128 (get_or c.args.coefs.now c.loop-i.i (pos 0)) = search rules in
    let b : SFits w128 c.number_at.result = search rules in
    let p : SFits w128 c.in-Some.summand = search rules in
    simp to_z-of_z (small_number (get_or c.args.coefs.now c.loop-i.i (pos 0)) c.number_at.result _ (simp to_z-of_z at c.in-Some.ensures))
