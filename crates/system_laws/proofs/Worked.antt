-- Worked eliminations.
use Rattle.std.proofs.Common.{◌≡◌, inl, inr, List, [], ◌∷◌, length, refl, arith, ℤ, pos, get_or}
use Rattle.std.specs.Prelude.{Ok}
use Rattle.std.proofs.lemmas.Int.{ints}
use Rattle.int_rows.specs.Gcd.{gcd, gcd_of}
use Rattle.int_rows.specs.Rows.{Meets}
use Rattle.int_rows.specs.Elimination.{elimination, made, paired, canceled, outcome, reduced, merged, made_small}
use Rattle.system_laws.specs.Bounds.{eliminated_each, AreOthers, IsStill}
use Rattle.system_laws.specs.Examples.{at_most_nine, triangle, outer, BoundsOfTriangle, PassedRowOfTriangle}
use Rattle.system_laws.proofs.Bounds.{has_bounds}
use Rattle.system_laws.proofs.Tightened.{kept_rows}

one_left : elimination 1 triangle ≡ Ok outer
unfolding elimination made paired canceled outcome reduced merged made_small gcd gcd_of
one_left = refl

each_left : eliminated_each (1 ∷ []) triangle ≡ Ok outer
unfolding elimination made paired canceled outcome reduced merged made_small gcd gcd_of
each_left = refl

-- only the direction of no change stays within all rows
none_goes_on : (p : List ℤ) → length p ≡ 2 → IsStill 0 (1 ∷ []) p → Meets (pos 0) p triangle → get_or p 0 (pos 0) ≡ pos 0
none_goes_on [] l s m = absurd (omega (arith, l))
none_goes_on (i ∷ []) l s m = absurd (omega (arith, l))
none_goes_on (i ∷ j ∷ []) l s m = let a = m.0 in let b = m.1.0 in omega (arith, ints, a, b)
none_goes_on (i ∷ j ∷ k ∷ p) l s m = absurd (omega (arith, l))

others : AreOthers 2 0 (1 ∷ [])
others = (omega arith, (λ e. omega (arith, e)), tt)

pub bounds_of_triangle : BoundsOfTriangle
bounds_of_triangle = let b = has_bounds 2 0 (1 ∷ []) triangle outer (omega arith) others each_left none_goes_on in (each_left, b.0, b.1)

pub passed_row_of_triangle : PassedRowOfTriangle
passed_row_of_triangle = (one_left, refl, kept_rows 1 triangle outer at_most_nine one_left (inr (inl refl)) refl refl)
