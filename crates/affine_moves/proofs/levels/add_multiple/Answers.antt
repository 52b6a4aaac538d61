use Rattle.std.proofs.Common.{◌^◌, ◌+ℤ◌, ◌*ℤ◌, unsigned_abs, arith}
use Rattle.std.proofs.lemmas.Int.{to_z-of_z, fits_signed_from_abs}
use mir.Val.{SFits}
use mir.Syntax.{w32, w128}
use Rattle.affine_moves.proofs.Sizes.{small_32, product-le, multiple-le, multiple-fits}
use Rattle.affine_moves.proofs.levels.add_multiple.Goals as goal

pub returns-clause-value : goal.returns-clause-value
returns-clause-value c =
    let t : SFits w128 c.args.total = c.ranges.total in
    let n : SFits w128 c.args.number = c.ranges.number in
    let f : SFits w32 c.args.coef = c.ranges.coef in
    let fl = small_32 c.args.coef f in
    let p = product-le c.args.coef c.args.number (2 ^ 31) (2 ^ 63) fl c.requires.number in
    let f' : SFits w128 c.args.coef = fits_signed_from_abs w128 c.args.coef (omega (arith, fl)) in
    let p' : SFits w128 (c.args.coef *ℤ c.args.number) = fits_signed_from_abs w128 (c.args.coef *ℤ c.args.number) (omega (arith, p)) in
    let s' : SFits w128 (c.args.total +ℤ c.args.coef *ℤ c.args.number) = multiple-fits c.args.total c.args.coef c.args.number (2 ^ 100) (omega arith) c.requires.total f c.requires.number in
    simp to_z-of_z

pub returns-clause-small : goal.returns-clause-small
returns-clause-small c =
    let t : SFits w128 c.args.total = c.ranges.total in
    let n : SFits w128 c.args.number = c.ranges.number in
    let f : SFits w32 c.args.coef = c.ranges.coef in
    let fl = small_32 c.args.coef f in
    let p = product-le c.args.coef c.args.number (2 ^ 31) (2 ^ 63) fl c.requires.number in
    let f' : SFits w128 c.args.coef = fits_signed_from_abs w128 c.args.coef (omega (arith, fl)) in
    let p' : SFits w128 (c.args.coef *ℤ c.args.number) = fits_signed_from_abs w128 (c.args.coef *ℤ c.args.number) (omega (arith, p)) in
    let s' : SFits w128 (c.args.total +ℤ c.args.coef *ℤ c.args.number) = multiple-fits c.args.total c.args.coef c.args.number (2 ^ 100) (omega arith) c.requires.total f c.requires.number in
    simp to_z-of_z (multiple-le c.args.total c.args.coef c.args.number (unsigned_abs c.args.total) (omega arith) f c.requires.number)
