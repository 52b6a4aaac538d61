use Rattle.std.proofs.Common.{◌≡◌, true, refl}
use Rattle.std.proofs.lemmas.Int.{to_z-of_z}
use mir.Val.{SFits}
use mir.Syntax.{w64, w128}
use Rattle.affine_moves.specs.Levels.{whole_form, is_within}
use Rattle.affine_moves.proofs.Sizes.{within_fits}
use Rattle.affine_moves.proofs.levels.whole_form.Goals as goal

pub returns-then-is_within-5 : goal.returns-then-is_within-5
unfolding whole_form
returns-then-is_within-5 c =
    let r' : SFits w128 c.args.r = c.ranges.r in
    let j' : SFits w128 c.args.j = c.ranges.j in
    let k' : SFits w128 c.args.k = c.ranges.k in
    let c' : SFits w128 c.args.constant = c.ranges.constant in
    let d' : SFits w128 c.args.divisor = c.ranges.divisor in
    let re : true ≡ is_within c.args.r = simp to_z-of_z at c.if-is_within.ensures in
    let je : true ≡ is_within c.args.j = simp to_z-of_z at c.if-is_within-2.ensures in
    let ke : true ≡ is_within c.args.k = simp to_z-of_z at c.if-is_within-3.ensures in
    let ce : true ≡ is_within c.args.constant = simp to_z-of_z at c.if-is_within-4.ensures in
    let de : true ≡ is_within c.args.divisor = simp to_z-of_z at c.if-is_within-5.ensures in
    let rs : SFits w64 c.args.r = within_fits c.args.r re in
    let js : SFits w64 c.args.j = within_fits c.args.j je in
    let ks : SFits w64 c.args.k = within_fits c.args.k ke in
    let cs : SFits w64 c.args.constant = within_fits c.args.constant ce in
    let ds : SFits w64 c.args.divisor = within_fits c.args.divisor de in
    simp to_z-of_z (rw (← re, ← je, ← ke, ← ce, ← de) refl)
