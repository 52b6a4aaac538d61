use Rattle.std.proofs.Common.{rules, ◌≡◌, ◌<◌, ◌^◌, ℤ, pos, ◌+ℤ◌, ◌-ℤ◌, ◌*ℤ◌, unsigned_abs, arith}
use Rattle.std.proofs.lemmas.Int.{ints, to_z-of_z, fits_signed_from_abs}
use mir.Val.{SFits}
use mir.Syntax.{w128}
use Rattle.nest_core.proofs.total.Total.add.Goals as goal

up : (t r n o : ℤ) → pos (2 ^ 126) *ℤ t +ℤ r ≡ o → pos (2 ^ 126) *ℤ (t +ℤ pos 1) +ℤ (r +ℤ n -ℤ pos (2 ^ 126)) ≡ o +ℤ n
up t r n o e = omega (arith, ints, e)

down : (t r n o : ℤ) → pos (2 ^ 126) *ℤ t +ℤ r ≡ o → pos (2 ^ 126) *ℤ (t -ℤ pos 1) +ℤ (r +ℤ n +ℤ pos (2 ^ 126)) ≡ o +ℤ n
down t r n o e = omega (arith, ints, e)

pub returns-then-sum-ge-LIMIT : goal.returns-then-sum-ge-LIMIT
returns-then-sum-ge-LIMIT c =
    let t : SFits w128 c.self.inside.times = search rules in
    let r : SFits w128 c.self.inside.rest = search rules in
    let n : SFits w128 c.args.number = search rules in
    let e : pos (2 ^ 126) *ℤ c.self.inside.times +ℤ c.self.inside.rest ≡ c.args.self.now = c.self.view_is in
    let i : unsigned_abs c.self.inside.rest < 2 ^ 126 = c.self.invariant in
    let s : SFits w128 (c.self.inside.rest +ℤ c.args.number) = search rules in
    let t' : SFits w128 (c.self.inside.times +ℤ pos 1) = fits_signed_from_abs w128 _ (omega (arith, ints, e, i, c.requires.room)) in
    let ge = simp to_z-of_z at c.if-sum-ge-LIMIT.true in
    let d : SFits w128 (c.self.inside.rest +ℤ c.args.number -ℤ pos (2 ^ 126)) = fits_signed_from_abs w128 _ (omega (arith, ints, i, ge, s.sfits)) in
    simp to_z-of_z (up c.self.inside.times c.self.inside.rest c.args.number c.args.self.now e)

pub returns-then-sum : goal.returns-then-sum
returns-then-sum c =
    let t : SFits w128 c.self.inside.times = search rules in
    let r : SFits w128 c.self.inside.rest = search rules in
    let n : SFits w128 c.args.number = search rules in
    let e : pos (2 ^ 126) *ℤ c.self.inside.times +ℤ c.self.inside.rest ≡ c.args.self.now = c.self.view_is in
    let i : unsigned_abs c.self.inside.rest < 2 ^ 126 = c.self.invariant in
    let s : SFits w128 (c.self.inside.rest +ℤ c.args.number) = search rules in
    let t' : SFits w128 (c.self.inside.times -ℤ pos 1) = fits_signed_from_abs w128 _ (omega (arith, ints, e, i, c.requires.room)) in
    let le = simp to_z-of_z at c.if-sum.true in
    let d : SFits w128 (c.self.inside.rest +ℤ c.args.number +ℤ pos (2 ^ 126)) = fits_signed_from_abs w128 _ (omega (arith, ints, i, le, s.sfits)) in
    simp to_z-of_z (down c.self.inside.times c.self.inside.rest c.args.number c.args.self.now e)
