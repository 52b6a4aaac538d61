use Rattle.std.proofs.Common.{rules, ◌≡◌, pos, ◌<◌, ◌≤◌, get_or, length}
use Rattle.std.proofs.lemmas.Int.{to_z-of_z}
use mir.Val.{SFits}
use mir.Syntax.{w128}
use Rattle.int_sets.specs.Views.{form_of}
use Rattle.int_sets.proofs.Combining.{combined-more, combined-not, combined-all, combined-all_not}
use Rattle.int_sets.proofs.combine.combine.Goals as goal

pub loop-i-preserved : goal.loop-i-preserved
loop-i-preserved c =
    let m : SFits w128 c.args.m = c.ranges.m in
    let n : SFits w128 c.args.n = c.ranges.n in
    let a : SFits w128 (get_or c.args.first.now.coefs.now c.loop-i.i (pos 0)) = search rules in
    let b : SFits w128 (get_or c.args.second.now.coefs.now c.loop-i.i (pos 0)) = search rules in
    let z : SFits w128 c.in-Some.number = search rules in
    let h : c.loop-i.i < length c.args.first.now.coefs.now = search rules in
    let g : c.loop-i.i < length c.args.second.now.coefs.now = search rules in
    rw c.in_ok-push-in-Some.ensures.ok
    (simp to_z-of_z (combined-more _ (form_of c.args.first.now) _ (form_of c.args.second.now) _ _ h g _ (simp to_z-of_z at c.in-Some.ensures) (simp to_z-of_z at c.loop-i.invariant)))

pub returns-in-None : goal.returns-in-None
returns-in-None c =
    let m : SFits w128 c.args.m = c.ranges.m in
    let n : SFits w128 c.args.n = c.ranges.n in
    let a : SFits w128 (get_or c.args.first.now.coefs.now c.loop-i.i (pos 0)) = search rules in
    let b : SFits w128 (get_or c.args.second.now.coefs.now c.loop-i.i (pos 0)) = search rules in
    let h : c.loop-i.i < length c.args.first.now.coefs.now = search rules in
    let g : c.loop-i.i < length c.args.second.now.coefs.now = search rules in
    combined-not _ (form_of c.args.first.now) _ (form_of c.args.second.now) _ _ h g (simp to_z-of_z at c.in-None.ensures) (simp to_z-of_z at c.loop-i.invariant)

pub returns-in-Some-combine_numbers : goal.returns-in-Some-combine_numbers
returns-in-Some-combine_numbers c =
    let m : SFits w128 c.args.m = c.ranges.m in
    let n : SFits w128 c.args.n = c.ranges.n in
    let a : SFits w128 c.args.first.now.constant = search rules in
    let b : SFits w128 c.args.second.now.constant = search rules in
    let z : SFits w128 c.in-Some-combine_numbers.constant = search rules in
    let end : length c.args.first.now.coefs.now ≤ c.loop-i.i = search rules in
    let end' : length c.args.second.now.coefs.now ≤ c.loop-i.i = search rules in
    simp to_z-of_z (combined-all _ (form_of c.args.first.now) _ (form_of c.args.second.now) _ _ end end' _ (simp to_z-of_z at c.in-Some-combine_numbers.ensures) (simp to_z-of_z at c.loop-i.invariant))

pub returns-in-None-combine_numbers : goal.returns-in-None-combine_numbers
returns-in-None-combine_numbers c =
    let m : SFits w128 c.args.m = c.ranges.m in
    let n : SFits w128 c.args.n = c.ranges.n in
    let a : SFits w128 c.args.first.now.constant = search rules in
    let b : SFits w128 c.args.second.now.constant = search rules in
    let end : length c.args.first.now.coefs.now ≤ c.loop-i.i = search rules in
    let end' : length c.args.second.now.coefs.now ≤ c.loop-i.i = search rules in
    let same : c.loop-i.i ≡ length c.args.first.now.coefs.now = search rules in
    rw (← same) (combined-all_not _ (form_of c.args.first.now) _ (form_of c.args.second.now) _ _ end end' (simp to_z-of_z at c.in-None-combine_numbers.ensures) (simp to_z-of_z at c.loop-i.invariant))
