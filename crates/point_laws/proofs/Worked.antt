-- The worked system of a loop over the entries of a matrix.
use Rattle.std.proofs.Common.{◌≡◌, ◌⊎◌, inl, inr, ℕ, zero, suc, ◌+◌, ◌<◌, ◌≤◌, Bool, true, false, cond, List, [], ◌∷◌, ◌++◌, map, length, refl, sym, ◌∙◌, ap, subst, subst₂, arith, drop, ◌≤ℤ◌, nat_eq, ℤ, pos, negsuc, bytes_eq, nat_lt, nat_le, ◌&&◌, ◌-◌}
use Rattle.std.specs.Prelude.{Option, Some, None, slice_get}
use Rattle.std.specs.List.{list_all, flat_map, position_from, range_with_len}
use Rattle.std.proofs.lemmas.Bool.{and_parts, eqb-true}
use Rattle.std.proofs.lemmas.Int.{ints}
use Rattle.int_rows.specs.declared.row.Aff.{Aff}
use Rattle.int_rows.specs.declared.row.Row.{Row}
use Rattle.nest_tree.specs.declared.kernel.Term.{Term}
use Rattle.nest_tree.specs.Lists.{IsIn}
use Rattle.int_rows.specs.Rows.{numbers}
use Rattle.nest_core.specs.Numbers.{is_small}
use Rattle.nest_tree.specs.Forms.{coef, Meets}
use Rattle.nest_tree.specs.Terms.{found}
use Rattle.nest_systems.specs.declared.choose.Chosen.{Chosen}
use Rattle.nest_systems.specs.declared.range.Span.{Span}
use Rattle.nest_systems.specs.Begun.{begun_rows, end_rows}
use Rattle.nest_systems.specs.Choosing.{are_equal, meet_term, chosen_of, with_counts}
use Rattle.nest_systems.specs.Parts.{behind, name_of_term, extended_terms, value_rows, end_names}
use Rattle.nest_systems.specs.Placing.{numbers_there, or_large, small_total}
use Rattle.nest_systems.specs.Ranges.{Names, coef_of, of_two, of_one, of_none, from_zero, to_one, first_span, value_span}
use Rattle.nest_systems.specs.Seating.{is_number, or_else, end_seat, seat}
use Rattle.nest_systems.specs.Spans.{low_number, high_number, low_row, high_row, unit_form}
use Rattle.nest_systems.specs.Sums.{stopped_sum, stopped_difference, stopped_product, number_at}
use Rattle.point_laws.specs.Seats.{Seats, seated_number, placed, placed_row}
use Rattle.point_laws.specs.Ranges.{InSpan, IsRanged}
use Rattle.point_laws.specs.Own.{own_places, own_rows, own_point, chosen_values, end_values, point_at, AreOver, AreFound}
use Rattle.point_laws.specs.Values.{AreSmall}
use Rattle.point_laws.proofs.Alike.{coef-past}
use Rattle.point_laws.proofs.Own.{own_met}
use Rattle.point_laws.proofs.Readings.{at-in, none-missing, no_counts}
use Rattle.point_laws.specs.Examples.{n, z, x, c, sparse, form, at_least, terms, rows, begins, input, levels, system, SparseSystem}

-- ---- the entries of rows
-- what the code chooses: both terms, in the order in which the rows hold them
abbrev both : Chosen
both = record { first = 4; ends_from = 2; order = 0 ∷ 1 ∷ []; ends = []; same = Some 0 ∷ Some 1 ∷ [] }

are_chosen : with_counts sparse [] terms (chosen_of 4 terms 0 rows []) ≡ both
unfolding with_counts chosen_of meet_term are_equal small_total number_at value_span from_zero of_one of_two of_none coef_of stopped_sum
are_chosen = refl

are_ranges : value_rows sparse [] 4 (extended_terms 6 terms []) (0 ∷ 1 ∷ []) ≡
    at_least (pos 0 ∷ pos 0 ∷ pos 0 ∷ pos 0 ∷ pos 1 ∷ pos 0 ∷ []) (pos 0)
    ∷ at_least (pos 0 ∷ pos 1 ∷ pos 0 ∷ pos 0 ∷ negsuc 0 ∷ pos 0 ∷ []) (pos 0)
    ∷ at_least (pos 0 ∷ pos 0 ∷ pos 0 ∷ pos 0 ∷ pos 0 ∷ pos 1 ∷ []) (pos 0)
    ∷ at_least (pos 0 ∷ pos 1 ∷ pos 0 ∷ pos 0 ∷ pos 0 ∷ negsuc 0 ∷ []) (pos 0)
    ∷ []
unfolding value_rows extended_terms number_at value_span from_zero of_one of_two of_none coef_of stopped_sum stopped_difference stopped_product low_number high_number low_row high_row unit_form
are_ranges = refl

are_begun : begun_rows sparse 6 ≡ at_least (pos 1 ∷ pos 0 ∷ pos 0 ∷ pos 0 ∷ pos 0 ∷ pos 0 ∷ []) (pos 0) ∷ at_least (pos 0 ∷ pos 1 ∷ pos 0 ∷ pos 0 ∷ pos 0 ∷ pos 0 ∷ []) (pos 0) ∷ []
unfolding begun_rows unit_form
are_begun = refl

-- a row in seats with these numbers
abbrev number_by : ℕ → ℕ → ℕ → List (Option ℕ) → List ℤ → ℕ → ℤ
number_by p l f ts cs v = cond (nat_lt v p) (number_at cs v) (cond (nat_le f v && nat_lt (v - f) l) (number_at cs (p + (v - f))) (or_large (small_total (numbers_there (p + l) ts v cs))))

abbrev row_by : ℕ → ℕ → ℕ → List (Option ℕ) → ℕ → Row → Row
row_by p l f ts vars r = record { equal = r.equal; form = record { coefs = map (number_by p l f ts r.form.coefs) (range_with_len 0 vars); constant = r.form.constant } }

placed-by : (s : Seats) (rs : List Row) → map (placed_row s) rs ≡ map (row_by s.params s.levels s.first_level s.terms s.vars) rs
unfolding placed seated_number
placed-by s rs = refl

seated-by : (p l f : ℕ) (ts : List (Option ℕ)) (vars : ℕ) → p ≡ 2 → l ≡ 2 → f ≡ 2 → ts ≡ Some 4 ∷ Some 5 ∷ [] → vars ≡ 6 → (rs : List Row) → map (row_by p l f ts vars) rs ≡ map (row_by 2 2 2 (Some 4 ∷ Some 5 ∷ []) 6) rs
seated-by p l f ts vars a b c d e rs = rw (a, b, c, d, e) refl

seats-are : (f : ℕ) (order : List ℕ) (u v : Option ℕ) → f ≡ 4 → order ≡ 0 ∷ 1 ∷ [] → or_else (behind f (position_from (is_number 0) 0 order)) u ∷ or_else (behind f (position_from (is_number 1) 0 order)) v ∷ [] ≡ Some 4 ∷ Some 5 ∷ []
seats-are f order u v e h = rw (e, h) refl

joined : (b r g e : List Row) → b ≡ begun_rows sparse 6 → r ≡ map (row_by 2 2 2 (Some 4 ∷ Some 5 ∷ []) 6) rows → g ≡ map (row_by 2 2 2 (Some 4 ∷ Some 5 ∷ []) 6) (value_rows sparse [] 4 (extended_terms 6 terms []) (0 ∷ 1 ∷ [])) → e ≡ [] → b ++ (r ++ (g ++ e)) ≡ system
unfolding begun_rows unit_form value_rows extended_terms number_at small_total value_span from_zero of_one of_two of_none coef_of stopped_sum stopped_difference stopped_product low_number high_number low_row high_row
joined b r g e p q w v = rw (p, q, w, v) refl

small-rows : (rs : List Row) → list_all (λ r. nat_eq (length r.form.coefs) 6 && list_all is_small (numbers r.form)) rs ≡ true → AreSmall 6 rs
small-rows [] h = tt
small-rows (r ∷ rs) h =
    let a = and_parts (nat_eq (length r.form.coefs) 6 && list_all is_small (numbers r.form)) _ h in
    let b = and_parts (nat_eq (length r.form.coefs) 6) (list_all is_small (numbers r.form)) a.0 in
    (record { width = eqb-true (length r.form.coefs) 6 b.0; small = b.1 }, small-rows rs a.1)

-- ---- the input
abbrev to_z : Span
to_z = to_one (n ∷ z ∷ []) z (pos 0)

in-range : (w : ℤ) → (w ≡ pos 0) ⊎ ((w ≡ pos 1) ⊎ (w ≡ pos 3)) → InSpan input to_z w
unfolding from_zero of_one of_two of_none coef_of stopped_sum
in-range w (inl e) = record { low = omega (arith, ints, e); high = omega (arith, ints, e) }
in-range w (inr (inl e)) = record { low = omega (arith, ints, e); high = omega (arith, ints, e) }
in-range w (inr (inr e)) = record { low = omega (arith, ints, e); high = omega (arith, ints, e) }

value-of : (at : List ℤ) (w : ℤ) → begins at ≡ Some w → (w ≡ pos 0) ⊎ ((w ≡ pos 1) ⊎ (w ≡ pos 3))
value-of [] w e = absurd cc
value-of (pos zero ∷ []) w e = inl cc
value-of (pos (suc zero) ∷ []) w e = inr (inl cc)
value-of (pos (suc (suc zero)) ∷ []) w e = inr (inr cc)
value-of (pos (suc (suc (suc k))) ∷ []) w e = absurd cc
value-of (negsuc k ∷ []) w e = absurd cc
value-of (y ∷ y' ∷ ys) w e = absurd (none y e)
  where
    none : (y : ℤ) → begins (y ∷ y' ∷ ys) ≡ Some w → ⊥
    none (pos zero) e = cc
    none (pos (suc zero)) e = cc
    none (pos (suc (suc zero))) e = cc
    none (pos (suc (suc (suc k)))) e = cc
    none (negsuc k) e = cc

ranged : IsRanged sparse [] input
unfolding value_span
ranged = record {
  count = refl;
  params = λ v l. at v l;
  extents = λ a e f m. absurd m;
  values = λ array at w s e h. by (cond (bytes_eq array c) (Some (to_one (n ∷ z ∷ []) n (negsuc 0))) None) (bytes_eq array x) at w s e h;
}
  where
    at : (v : ℕ) → v < 2 → pos 0 ≤ℤ coef v (pos 2 ∷ pos 3 ∷ [])
    at zero l = omega (arith, ints)
    at (suc zero) l = omega (arith, ints)
    at (suc (suc v)) l = absurd (omega (arith, l))

    by : (o : Option Span) (b : Bool) (at : List ℤ) (w : ℤ) (s : Span) → first_span (cond b (Some (to_one (n ∷ z ∷ []) z (pos 0))) o) None ≡ Some s → cond b (begins at) None ≡ Some w → InSpan input s w
    by o true place w s e h = let d : to_one (n ∷ z ∷ []) z (pos 0) ≡ s = cc in subst (λ (t : Span). InSpan input t w) d (in-range w (value-of place w h))
    by o false place w s e h = absurd cc

-- ---- the statement
abbrev row : Aff
row = form (pos 0 ∷ pos 0 ∷ pos 1 ∷ pos 0 ∷ pos 0 ∷ pos 0 ∷ []) (pos 0)

abbrev next : Aff
next = form (pos 0 ∷ pos 0 ∷ pos 1 ∷ pos 0 ∷ pos 0 ∷ pos 0 ∷ []) (pos 1)

no-term : (j : ℕ) → coef (4 + j) (pos 0 ∷ pos 0 ∷ pos 1 ∷ pos 0 ∷ pos 0 ∷ pos 0 ∷ []) ≡ pos 0
no-term zero = refl
no-term (suc zero) = refl
no-term (suc (suc j)) = coef-past (pos 0 ∷ pos 0 ∷ pos 1 ∷ pos 0 ∷ pos 0 ∷ pos 0 ∷ []) (4 + suc (suc j)) (omega arith)

argument : (t : Term) (f : Aff) → IsIn t terms → IsIn f t.at → f.coefs ≡ pos 0 ∷ pos 0 ∷ pos 1 ∷ pos 0 ∷ pos 0 ∷ pos 0 ∷ []
argument t f (inl e) m = one f (subst (λ (u : Term). IsIn f u.at) e m)
  where
    one : (f : Aff) → IsIn f (row ∷ []) → f.coefs ≡ pos 0 ∷ pos 0 ∷ pos 1 ∷ pos 0 ∷ pos 0 ∷ pos 0 ∷ []
    one f (inl e) = ap (λ (g : Aff). g.coefs) e
    one f (inr e) = absurd e
argument t f (inr (inl e)) m = one f (subst (λ (u : Term). IsIn f u.at) e m)
  where
    one : (f : Aff) → IsIn f (next ∷ []) → f.coefs ≡ pos 0 ∷ pos 0 ∷ pos 1 ∷ pos 0 ∷ pos 0 ∷ pos 0 ∷ []
    one f (inl e) = ap (λ (g : Aff). g.coefs) e
    one f (inr e) = absurd e
argument t f (inr (inr e)) m = absurd e

over : AreOver 4 terms rows
over = record {
  args = λ t f m k. (let e = ap length (argument t f m k) in omega (arith, e));
  wide = λ r m. wide r m;
  ranks = inr (λ t. 0, record { bounded = λ k. omega arith; above = λ k t f j a m names. absurd (names (ap (coef (4 + j)) (argument t f (at-in terms k t a) m) ∙ no-term j)) });
}
  where
    wide : (r : Row) → IsIn r rows → length r.form.coefs ≤ 4 + 2
    wide r (inl e) = let d = ap (λ (s : Row). length s.form.coefs) e in omega (arith, d)
    wide r (inr (inl e)) = let d = ap (λ (s : Row). length s.form.coefs) e in omega (arith, d)
    wide r (inr (inr (inl e))) = let d = ap (λ (s : Row). length s.form.coefs) e in omega (arith, d)
    wide r (inr (inr (inr (inl e)))) = let d = ap (λ (s : Row). length s.form.coefs) e in omega (arith, d)
    wide r (inr (inr (inr (inr e)))) = absurd e

point-is : point_at input terms levels ≡ pos 2 ∷ pos 3 ∷ pos 1 ∷ pos 2 ∷ pos 1 ∷ pos 3 ∷ []
point-is = refl

rows-met : Meets (point_at input terms levels) rows
rows-met = (omega (arith, ints), (omega (arith, ints), (omega (arith, ints), (omega (arith, ints), tt))))

finds : AreFound input terms levels
finds zero l = found 0 (record { array = x; at = row ∷ [] }) (pos 1) refl refl (λ f j m names. absurd (names (ap (coef (4 + j)) (argument (record { array = x; at = row ∷ [] }) f (inl refl) m) ∙ no-term j)))
finds (suc zero) l = found 1 (record { array = x; at = next ∷ [] }) (pos 3) refl refl (λ f j m names. absurd (names (ap (coef (4 + j)) (argument (record { array = x; at = next ∷ [] }) f (inr (inl refl)) m) ∙ no-term j)))
finds (suc (suc t)) l = absurd (omega (arith, l))

-- ---- the system
length-six : 4 + length (extended_terms 6 terms []) ≡ 6
unfolding extended_terms
length-six = refl

pub sparse_system : SparseSystem
unfolding small_total number_at
sparse_system y s part seats =
    let chosen : y.chosen ≡ both = part.own_chosen ∙ ap (with_counts sparse [] terms) part.is_held ∙ are_chosen in
    let ends : end_names y ≡ [] = ap (λ (c : Chosen). flat_map (name_of_term y.terms) c.ends) chosen in
    let further : part.further ≡ [] = part.are_further ∙ none-missing sparse [] (no_counts sparse) terms part.held in
    let own_terms : y.terms ≡ extended_terms 6 terms [] = part.own_terms ∙ ap (λ (l : Names). extended_terms (4 + 2 + length l) terms l) further in
    let ranges : y.ranges ≡ value_rows sparse [] 4 (extended_terms 6 terms []) (0 ∷ 1 ∷ []) = part.ranges ∙ subst₂ (λ (us : List Term) (c : Chosen). value_rows sparse [] 4 y.terms y.chosen.order ≡ value_rows sparse [] 4 us c.order) own_terms chosen refl in
    let order : length y.chosen.order ≡ 2 = ap (λ (c : Chosen). length c.order) chosen in
    let none : length (end_names y) ≡ 0 = ap length ends in
    let deep = part.own_levels in
    let vars : s.vars ≡ 6 = (let v = seats.vars in omega (arith, v, order, none, deep)) in
    let sl : s.levels ≡ 2 = seats.levels ∙ deep in
    let first : length sparse.params + y.levels ≡ 4 = omega (arith, deep) in
    let ts : s.terms ≡ Some 4 ∷ Some 5 ∷ [] =
    seats.terms ∙ ap (λ (c : Chosen). map (seat y (own_places sparse y) (end_names y)) c.same) chosen
    ∙ seats-are (length sparse.params + y.levels) y.chosen.order (end_seat (own_places sparse y) (end_names y) (slice_get y.terms 0)) (end_seat (own_places sparse y) (end_names y) (slice_get y.terms 1)) first (ap (λ (c : Chosen). c.order) chosen) in
    let own : own_rows sparse [] y s ≡ system =
    joined (begun_rows sparse s.vars) (map (placed_row s) y.rows) (map (placed_row s) y.ranges) (end_rows sparse [] s.vars (own_places sparse y).first_end (end_names y))
    (ap (begun_rows sparse) vars)
    (placed-by s y.rows ∙ seated-by s.params s.levels s.first_level s.terms s.vars seats.params sl seats.first_level ts vars y.rows ∙ ap (map (row_by 2 2 2 (Some 4 ∷ Some 5 ∷ []) 6)) part.own_rows)
    (placed-by s y.ranges ∙ seated-by s.params s.levels s.first_level s.terms s.vars seats.params sl seats.first_level ts vars y.ranges ∙ ap (map (row_by 2 2 2 (Some 4 ∷ Some 5 ∷ []) 6)) ranges)
    (ap (end_rows sparse [] s.vars (own_places sparse y).first_end) ends) in
    let small : AreSmall s.vars (own_rows sparse [] y s) = subst₂ AreSmall (sym vars) (sym own) (small-rows system refl) in
    let wide : length sparse.params + length levels + length y.terms ≡ 6 = ap (λ (us : List Term). 4 + length us) own_terms ∙ length-six in
    let small_ranges : AreSmall (length sparse.params + length levels + length y.terms) y.ranges = subst₂ AreSmall (sym wide) (sym (ranges ∙ are_ranges)) (small-rows (drop 6 system) refl) in
    let point : own_point input terms levels y ≡ pos 2 ∷ pos 3 ∷ pos 1 ∷ pos 2 ∷ pos 1 ∷ pos 3 ∷ [] =
    ap (λ (l : Names). pos 2 ∷ pos 3 ∷ pos 1 ∷ pos 2 ∷ (chosen_values input terms levels y.chosen.order ++ end_values input l)) ends
    ∙ ap (λ (c : Chosen). pos 2 ∷ pos 3 ∷ pos 1 ∷ pos 2 ∷ (chosen_values input terms levels c.order ++ [])) chosen in
    (own, point, ranged, over, rows-met, finds, own_met sparse [] input terms rows [] y s levels ranged (no_counts sparse) over part seats rows-met finds small_ranges small)
