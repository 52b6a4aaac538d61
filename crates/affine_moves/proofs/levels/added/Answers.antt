use Rattle.std.proofs.Common.{rules, arith, refl}
use Rattle.std.proofs.lemmas.Int.{to_z-of_z}
use mir.Val.{SFits}
use mir.Syntax.{w32, w128}
use Rattle.affine_moves.proofs.levels.added.Goals as goal

pub returns-clause-value : goal.returns-clause-value
returns-clause-value c =
    let f : SFits w32 c.args.coef = c.ranges.coef in
    let s1 : SFits w128 c.args.sum.r = search rules in
    let s2 : SFits w128 c.args.sum.j = search rules in
    let s3 : SFits w128 c.args.sum.k = search rules in
    let s4 : SFits w128 c.args.sum.constant = search rules in
    let m1 : SFits w128 c.args.more.r = search rules in
    let m2 : SFits w128 c.args.more.j = search rules in
    let m3 : SFits w128 c.args.more.k = search rules in
    let m4 : SFits w128 c.args.more.constant = search rules in
    let a1 : SFits w128 c.add_multiple.result = search rules in
    let a2 : SFits w128 c.add_multiple-2.result = search rules in
    let a3 : SFits w128 c.add_multiple-3.result = search rules in
    let a4 : SFits w128 c.add_multiple-4.result = search rules in
    let e1 = simp to_z-of_z at c.add_multiple.ensures.value in
    let e2 = simp to_z-of_z at c.add_multiple-2.ensures.value in
    let e3 = simp to_z-of_z at c.add_multiple-3.ensures.value in
    let e4 = simp to_z-of_z at c.add_multiple-4.ensures.value in
    simp to_z-of_z (rw (e1, e2, e3, e4) refl)

pub returns-clause-small : goal.returns-clause-small
returns-clause-small c =
    let s1 : SFits w128 c.args.sum.r = search rules in
    let s2 : SFits w128 c.args.sum.j = search rules in
    let s3 : SFits w128 c.args.sum.k = search rules in
    let s4 : SFits w128 c.args.sum.constant = search rules in
    let a1 : SFits w128 c.add_multiple.result = search rules in
    let a2 : SFits w128 c.add_multiple-2.result = search rules in
    let a3 : SFits w128 c.add_multiple-3.result = search rules in
    let a4 : SFits w128 c.add_multiple-4.result = search rules in
    let b1 = simp to_z-of_z at c.add_multiple.ensures.small in
    let b2 = simp to_z-of_z at c.add_multiple-2.ensures.small in
    let b3 = simp to_z-of_z at c.add_multiple-3.ensures.small in
    let b4 = simp to_z-of_z at c.add_multiple-4.ensures.small in
    λ n h. simp to_z-of_z (omega (arith, b1, h.0), omega (arith, b2, h.1), omega (arith, b3, h.2), omega (arith, b4, h.3))
