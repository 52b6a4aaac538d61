use Rattle.std.proofs.Common.{rules, ◌^◌, ◌∙◌, sym, ap, ◌*ℤ◌, arith}
use Rattle.std.proofs.lemmas.Int.{to_z-of_z, fits_signed_from_abs}
use mir.Val.{SFits}
use mir.Syntax.{w32, w64, w128}
use Rattle.affine_moves.specs.Levels.{shifted_form}
use Rattle.affine_moves.proofs.Sizes.{small_32, small_64, product-le, multiple-fits}
use Rattle.affine_moves.proofs.levels.shifted_form.Goals as goal

pub overflow_add-constant : goal.overflow_add-constant
overflow_add-constant c =
    let a : SFits w32 c.args.amount = c.ranges.amount in
    let k : SFits w64 c.in-Whole.constant = search rules in
    let d : SFits w64 c.in-Whole.divisor = search rules in
    let kl = small_64 c.in-Whole.constant k in
    let dl = small_64 c.in-Whole.divisor d in
    let al = small_32 c.args.amount a in
    let p = product-le c.args.amount c.in-Whole.divisor (2 ^ 31) (2 ^ 63) al dl in
    let a' : SFits w128 c.args.amount = fits_signed_from_abs w128 c.args.amount (omega (arith, al)) in
    let k' : SFits w128 c.in-Whole.constant = fits_signed_from_abs w128 c.in-Whole.constant (omega (arith, kl)) in
    let d' : SFits w128 c.in-Whole.divisor = fits_signed_from_abs w128 c.in-Whole.divisor (omega (arith, dl)) in
    let p' : SFits w128 (c.args.amount *ℤ c.in-Whole.divisor) = fits_signed_from_abs w128 (c.args.amount *ℤ c.in-Whole.divisor) (omega (arith, p)) in
    simp to_z-of_z (multiple-fits c.in-Whole.constant c.args.amount c.in-Whole.divisor (2 ^ 63) (omega arith) kl a dl)

pub returns-in-Whole : goal.returns-in-Whole
returns-in-Whole c =
    let a : SFits w32 c.args.amount = c.ranges.amount in
    let r : SFits w64 c.in-Whole.r = search rules in
    let j : SFits w64 c.in-Whole.j = search rules in
    let m : SFits w64 c.in-Whole.k = search rules in
    let k : SFits w64 c.in-Whole.constant = search rules in
    let d : SFits w64 c.in-Whole.divisor = search rules in
    let kl = small_64 c.in-Whole.constant k in
    let dl = small_64 c.in-Whole.divisor d in
    let al = small_32 c.args.amount a in
    let rl = small_64 c.in-Whole.r r in
    let jl = small_64 c.in-Whole.j j in
    let ml = small_64 c.in-Whole.k m in
    let p = product-le c.args.amount c.in-Whole.divisor (2 ^ 31) (2 ^ 63) al dl in
    let a' : SFits w128 c.args.amount = fits_signed_from_abs w128 c.args.amount (omega (arith, al)) in
    let r' : SFits w128 c.in-Whole.r = fits_signed_from_abs w128 c.in-Whole.r (omega (arith, rl)) in
    let j' : SFits w128 c.in-Whole.j = fits_signed_from_abs w128 c.in-Whole.j (omega (arith, jl)) in
    let m' : SFits w128 c.in-Whole.k = fits_signed_from_abs w128 c.in-Whole.k (omega (arith, ml)) in
    let k' : SFits w128 c.in-Whole.constant = fits_signed_from_abs w128 c.in-Whole.constant (omega (arith, kl)) in
    let d' : SFits w128 c.in-Whole.divisor = fits_signed_from_abs w128 c.in-Whole.divisor (omega (arith, dl)) in
    let p' : SFits w128 (c.args.amount *ℤ c.in-Whole.divisor) = fits_signed_from_abs w128 (c.args.amount *ℤ c.in-Whole.divisor) (omega (arith, p)) in
    let s' = multiple-fits c.in-Whole.constant c.args.amount c.in-Whole.divisor (2 ^ 63) (omega arith) kl a dl in
    (simp to_z-of_z at c.whole_form.ensures) ∙ ap (shifted_form c.args.amount) (sym c.in-Whole.is)
