-- A statement's own system is met at its points.
use Rattle.std.proofs.Common.{◌≡◌, ℕ, ◌+◌, ◌<◌, ◌≤◌, List, [], ◌++◌, map, length, refl, sym, ◌∙◌, ap, subst, arith, ℤ}
use Rattle.c_tree.specs.declared.program.Program.{Program}
use Rattle.int_rows.specs.declared.row.Aff.{Aff}
use Rattle.int_rows.specs.declared.row.Row.{Row}
use Rattle.nest_tree.specs.declared.kernel.Term.{Term}
use Rattle.nest_tree.specs.declared.made.Made.{Made}
use Rattle.nest_tree.specs.Lists.{IsAt}
use Rattle.nest_tree.specs.Forms.{value, coef, Meets}
use Rattle.nest_tree.specs.Terms.{Input, term_values}
use Rattle.nest_laws.proofs.Points.{coef-before, coef-behind, length-map}
use Rattle.nest_systems.specs.declared.instance.Instance.{Instance}
use Rattle.nest_systems.specs.Begun.{begun_rows, end_rows}
use Rattle.nest_systems.specs.Parts.{end_names}
use Rattle.nest_systems.specs.Statements.{IsPart}
use Rattle.point_laws.specs.Seats.{Seats, placed, placed_row, AreSeats}
use Rattle.point_laws.specs.Seated.{IsSeatedSmall}
use Rattle.point_laws.specs.Alike.{IsMet}
use Rattle.point_laws.specs.Ranges.{IsRanged, HasNoCounts}
use Rattle.point_laws.specs.Values.{BeginsWith}
use Rattle.point_laws.specs.Own.{own_places, point_at, chosen_values, own_point, AreOver, OwnIsMet}
use Rattle.point_laws.proofs.Values.{small-append, meets-append}
use Rattle.point_laws.proofs.Begun.{begun_met}
use Rattle.point_laws.proofs.Seating.{StandsIn, HasPlaces}
use Rattle.point_laws.proofs.Readings.{at-inside, coef-of-map, term-at}
use Rattle.point_laws.proofs.Placed.{placed_value}
use Rattle.point_laws.proofs.Sides.{none-named, apart, seated, held-fits, placed-rows-met, placed-ranges-met}

-- what stands behind lists of known lengths
pub behind : (xs ys : List ℤ) (n k : ℕ) → length xs ≡ n → coef (n + k) (xs ++ ys) ≡ coef k ys
behind xs ys n k e = subst (λ (m : ℕ). coef (m + k) (xs ++ ys) ≡ coef k ys) e (coef-behind xs ys k)

pub before : (xs ys : List ℤ) (n k : ℕ) → length xs ≡ n → k < n → coef k (xs ++ ys) ≡ coef k xs
before xs ys n k e h = coef-before xs ys k (omega (arith, e, h))

-- the value of a variable among those of the variables
pub chosen-at : (i : Input) (terms : List Term) (vs zs : List ℤ) (order : List ℕ) (k t : ℕ) → IsAt k t order
    → coef k (chosen_values i terms vs order ++ zs) ≡ coef (length i.params + length vs + t) (point_at i terms vs)
chosen-at i terms vs zs order k t a =
    let l = at-inside order k t a in
    let n = length-map (λ t. coef t (term_values i terms (i.params ++ vs))) order in
    before (chosen_values i terms vs order) zs (length order) k n l ∙ coef-of-map (λ t. coef t (term_values i terms (i.params ++ vs))) order k t a ∙ sym (term-at i terms vs t)

module _ (head : Program) (made : List Made) (i : Input) (terms : List Term) (x : Instance) (vs : List ℤ) (r : IsRanged head made i) (levels : x.levels ≡ length vs) where
  abbrev q : List ℤ
  q = own_point i terms vs x

  abbrev p : List ℤ
  p = point_at i terms vs

  pub begins : BeginsWith i.params q
  begins v l = coef-before i.params _ v l

  stands : StandsIn x (own_places head x) p q
  stands = record {
    params = λ v l. (let c = r.count in coef-before i.params _ v (omega (arith, c, l)) ∙ sym (coef-before i.params _ v (omega (arith, c, l))));
    levels = λ v l. behind i.params _ (length head.params) v r.count ∙ before vs _ (length vs) v refl (omega (arith, l, levels)) ∙ sym (behind i.params _ (length head.params) v r.count ∙ before vs _ (length vs) v refl (omega (arith, l, levels)));
    terms = λ k t a.
        let c = r.count in
        let e : length head.params + x.levels + k ≡ length head.params + (length vs + k) = omega (arith, levels) in
        let f : length i.params + length vs + t ≡ length head.params + x.levels + t = omega (arith, levels, c) in
        ap (λ (n : ℕ). coef n q) e ∙ behind i.params _ (length head.params) (length vs + k) r.count ∙ behind vs _ (length vs) k refl ∙ chosen-at i terms vs _ x.chosen.order k t a ∙ ap (λ (n : ℕ). coef n p) f;
  }

  places : HasPlaces x (own_places head x)
  places = record { first = omega arith; levels = omega arith; terms = omega arith }

pub own_met : OwnIsMet
own_met head made i terms rows forms x s vs r none over part seats m f small_ranges small =
    let ends = none-named head made i terms rows forms x vs r none over part in
    let q : List ℤ = own_point i terms vs x in
    let taken : AreSeats x (own_places head x) [] s = subst (λ (l : List (List ℕ)). AreSeats x (own_places head x) l s) ends seats in
    let a = small-append s.vars (begun_rows head s.vars) (map (placed_row s) x.rows ++ (map (placed_row s) x.ranges ++ end_rows head made s.vars (own_places head x).first_end (end_names x))) small in
    let b = small-append s.vars (map (placed_row s) x.rows) (map (placed_row s) x.ranges ++ end_rows head made s.vars (own_places head x).first_end (end_names x)) a.1 in
    let c = small-append s.vars (map (placed_row s) x.ranges) (end_rows head made s.vars (own_places head x).first_end (end_names x)) b.1 in
    let at = stands head made i terms x vs r part.own_levels in
    let places : HasPlaces x (own_places head x) = places head made i terms x vs r part.own_levels in
    let wide : length head.params ≤ s.vars = (let v = seats.vars in omega (arith, v)) in
    meets-append q (begun_rows head s.vars) (map (placed_row s) x.rows ++ (map (placed_row s) x.ranges ++ end_rows head made s.vars (own_places head x).first_end (end_names x)))
    (begun_met head made i s.vars q r wide (begins head made i terms x vs r part.own_levels))
    (meets-append q (map (placed_row s) x.rows) (map (placed_row s) x.ranges ++ end_rows head made s.vars (own_places head x).first_end (end_names x))
    (placed-rows-met head made i terms rows forms x vs r none over part (own_places head x) s q refl taken places at m b.0)
    (meets-append q (map (placed_row s) x.ranges) (end_rows head made s.vars (own_places head x).first_end (end_names x))
    (placed-ranges-met head made i terms rows forms x vs r none over part (own_places head x) s q refl taken places at f small_ranges c.0)
    (subst (λ (l : List (List ℕ)). Meets q (end_rows head made s.vars (own_places head x).first_end l)) (sym ends) tt)))

-- a form each term of which has a seat has its value there
pub own_value : (head : Program) (made : List Made) (i : Input) (terms : List Term) (rows : List Row) (forms : List Aff) (x : Instance) (s : Seats) (vs : List ℤ)
    → IsRanged head made i → HasNoCounts head made → AreOver (length head.params + length vs) terms rows → IsPart head made (length vs) terms 0 rows forms x → AreSeats x (own_places head x) (end_names x) s
    → (g : Aff) → length g.coefs ≤ length head.params + length vs + length terms → IsMet (length head.params + length vs) x.chosen.same g → IsSeatedSmall s g → value (own_point i terms vs x) (placed s g) ≡ value (point_at i terms vs) g
own_value head made i terms rows forms x s vs r none over part seats g wide met small =
    let ends = none-named head made i terms rows forms x vs r none over part in
    let q : List ℤ = own_point i terms vs x in
    let taken : AreSeats x (own_places head x) [] s = subst (λ (l : List (List ℕ)). AreSeats x (own_places head x) l s) ends seats in
    let at = stands head made i terms x vs r part.own_levels in
    let places : HasPlaces x (own_places head x) = places head made i terms x vs r part.own_levels in
    placed_value s g (point_at i terms vs) q (apart head made i terms rows forms x vs r none over part (own_places head x) s q refl taken places at)
    (held-fits head made i terms rows forms x vs r none over part (own_places head x) s q refl taken places at g wide met small)
    (seated head made i terms rows forms x vs r none over part (own_places head x) s q refl taken places at)
