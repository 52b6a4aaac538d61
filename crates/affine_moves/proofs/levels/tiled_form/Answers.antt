use Rattle.std.proofs.Common.{rules, ◌^◌, ◌≤◌, ◌∙◌, sym, ap, pos, ◌*ℤ◌, unsigned_abs, arith}
use Rattle.std.proofs.lemmas.Int.{ints, to_z-of_z, fits_signed_from_abs}
use mir.Val.{SFits}
use mir.Syntax.{w64, w128}
use Rattle.affine_moves.specs.Levels.{tiled_form}
use Rattle.affine_moves.proofs.Sizes.{small_64, product-le}
use Rattle.affine_moves.proofs.levels.tiled_form.Goals as goal

pub returns-in-Whole : goal.returns-in-Whole
returns-in-Whole c =
    let r : SFits w64 c.in-Whole.r = search rules in
    let j : SFits w64 c.in-Whole.j = search rules in
    let m : SFits w64 c.in-Whole.k = search rules in
    let k : SFits w64 c.in-Whole.constant = search rules in
    let d : SFits w64 c.in-Whole.divisor = search rules in
    let kl = small_64 c.in-Whole.constant k in
    let dl = small_64 c.in-Whole.divisor d in
    let rl = small_64 c.in-Whole.r r in
    let jl = small_64 c.in-Whole.j j in
    let ml = small_64 c.in-Whole.k m in
    let sl : unsigned_abs (pos c.args.size) ≤ 2 ^ 32 = omega (arith, ints, c.ranges.size.fits) in
    let p = product-le c.in-Whole.divisor (pos c.args.size) (2 ^ 63) (2 ^ 32) dl sl in
    let r' : SFits w128 c.in-Whole.r = fits_signed_from_abs w128 c.in-Whole.r (omega (arith, rl)) in
    let j' : SFits w128 c.in-Whole.j = fits_signed_from_abs w128 c.in-Whole.j (omega (arith, jl)) in
    let m' : SFits w128 c.in-Whole.k = fits_signed_from_abs w128 c.in-Whole.k (omega (arith, ml)) in
    let k' : SFits w128 c.in-Whole.constant = fits_signed_from_abs w128 c.in-Whole.constant (omega (arith, kl)) in
    let d' : SFits w128 c.in-Whole.divisor = fits_signed_from_abs w128 c.in-Whole.divisor (omega (arith, dl)) in
    let s' : SFits w128 (pos c.args.size) = fits_signed_from_abs w128 (pos c.args.size) (omega (arith, sl)) in
    let p' : SFits w128 (c.in-Whole.divisor *ℤ pos c.args.size) = fits_signed_from_abs w128 (c.in-Whole.divisor *ℤ pos c.args.size) (omega (arith, p)) in
    let w = simp (c.wide.ensures, to_z-of_z) at c.whole_form.ensures in
    w ∙ ap (tiled_form c.args.size) (sym c.in-Whole.is)
