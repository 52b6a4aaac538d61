use Rattle.std.proofs.Common.{◌≡◌, ◌<◌, ◌≤◌, ◌^◌, ℕ, ℤ, true, arith}
use Rattle.std.specs.Prelude.{unsigned_abs}
use Rattle.std.proofs.lemmas.Int.{to_z-of_z}
use Rattle.std.proofs.lemmas.Bool.{leb-true}
use mir.Val.{SFits}
use mir.Syntax.{w128}
use Rattle.int_rows.specs.Elimination.{is_small}
use Rattle.int_rows.proofs.GcdLaws.{gcd-some, gcd-le, size-some}
use Rattle.int_rows.specs.Gcd.{gcd}
use Rattle.int_sets.proofs.cancel.divisor.Goals as goal

some_of : (b g : ℕ) (x y : ℕ) → y ≡ b → g ≡ gcd x y → 0 < b → 0 < g
some_of b g x y q e h = rw (e, q) (gcd-some x b h)

top_of : (b g : ℕ) (x y : ℕ) → y ≡ b → g ≡ gcd x y → 0 < b → b ≤ 2 ^ 126 → g ≤ 2 ^ 126
top_of b g x y q e h l = rw (e, q) (let k : gcd x b ≤ b = gcd-le x b h in omega arith)

small-le : (c : ℤ) → is_small c ≡ true → unsigned_abs c ≤ 2 ^ 126
small-le c h = leb-true _ _ h

pub returns-clause-some : goal.returns-clause-some
returns-clause-some c =
    let f : SFits w128 c.args.c = c.ranges.c in
    some_of (unsigned_abs c.args.c) _ _ _ (simp to_z-of_z at c.unsigned_abs-2.ensures.value) c.gcd.ensures (size-some c.args.c c.requires.held)

pub returns-clause-top : goal.returns-clause-top
returns-clause-top c =
    let f : SFits w128 c.args.c = c.ranges.c in
    top_of (unsigned_abs c.args.c) _ _ _ (simp to_z-of_z at c.unsigned_abs-2.ensures.value) c.gcd.ensures (size-some c.args.c c.requires.held) (small-le c.args.c c.requires.small)
