-- The worked implication, computed, and by the law.
use Rattle.std.proofs.Common.{◌≡◌, inl, inr, ℕ, zero, suc, ◌+◌, ◌<◌, ◌≤◌, true, [], ◌∷◌, length, refl, ap, arith, ℤ, pos, ◌≤ℤ◌}
use Rattle.std.proofs.lemmas.Int.{ints}
use Rattle.int_rows.specs.Elimination as elimination
use Rattle.int_rows.specs.Exclusion as exclusion
use Rattle.int_rows.specs.Gcd as gcd
use Rattle.int_rows.specs.Systems as systems
use Rattle.int_rows.specs.declared.row.Row.{Row}
use Rattle.nest_tree.specs.Forms.{coef, Meets}
use Rattle.nest_tree.specs.Lists.{IsIn}
use Rattle.nest_systems.specs.Begun as begun
use Rattle.nest_systems.specs.Choosing as choosing
use Rattle.nest_systems.specs.Parts as parts
use Rattle.nest_systems.specs.Placing as placing
use Rattle.nest_systems.specs.Spans as spans
use Rattle.nest_systems.specs.Sums as sums
use Rattle.point_laws.specs.Own.{AreOver, AreFound, point_at}
use Rattle.point_laws.specs.Ranges.{IsRanged}
use Rattle.point_laws.specs.Seats as seats
use Rattle.scanning.specs.Projections.{is_implied}
use Rattle.implied_laws.specs.Examples.{head, rows, some, input, WorkedImplication}
use Rattle.implied_laws.proofs.Implied.{implied_law}

pub ranged : IsRanged head [] input
ranged = record {
  count = refl;
  params = λ v l. at v l;
  extents = λ a e f m. absurd m;
  values = λ array at x s e h. absurd cc;
}
  where
    at : (v : ℕ) → v < 1 → pos 0 ≤ℤ coef v (pos 3 ∷ [])
    at zero l = omega (arith, ints)
    at (suc v) l = absurd (omega (arith, l))

over : AreOver 2 [] rows
over = record { args = λ t f m. absurd m; wide = λ r m. wide r m; ranks = inl refl }
  where
    wide : (r : Row) → IsIn r rows → length r.form.coefs ≤ 2 + 0
    wide r (inl e) = let d = ap (λ (s : Row). length s.form.coefs) e in omega (arith, d)
    wide r (inr (inl e)) = let d = ap (λ (s : Row). length s.form.coefs) e in omega (arith, d)
    wide r (inr (inr e)) = absurd e

met : Meets (point_at input [] (pos 2 ∷ [])) rows
met = (omega (arith, ints), (omega (arith, ints), tt))

found : AreFound input [] (pos 2 ∷ [])
found t l = absurd (omega (arith, l))

implied : is_implied head [] 1 [] rows some ≡ true
unfolding is_implied systems.implied systems.pushed systems.excluded exclusion.exclusion exclusion.is_impossible elimination.canceled elimination.reduced elimination.outcome elimination.made_small elimination.paired elimination.made elimination.merged elimination.elimination gcd.gcd gcd.gcd_of
    seats.placed seats.seated_number placing.small_total begun.begun_rows choosing.chosen_of choosing.meet_term choosing.with_counts parts.extended_terms parts.value_rows sums.number_at spans.unit_form
implied = refl

pub worked : WorkedImplication
worked = (ranged, over, met, found, implied, implied_law head input [] rows some (pos 2 ∷ []) ranged over (omega arith) met found implied)
