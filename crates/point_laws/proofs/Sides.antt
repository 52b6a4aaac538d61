-- What a statement gives to a system is met at its points.
use Rattle.std.proofs.Common.{◌≡◌, inl, inr, ℕ, ◌+◌, ◌-◌, ◌<◌, ◌≤◌, List, [], ◌∷◌, ◌++◌, map, length, refl, sym, ◌∙◌, ap, subst, arith, ℤ, pos, negsuc, ◌*ℤ◌, append-nil}
use Rattle.std.specs.Prelude.{Option, Some, None, slice_get}
use Rattle.std.specs.List.{AllByRecursion, flat_map, range_with_len}
use Rattle.std.proofs.lemmas.Int.{ints}
use lib.IntN.{*ℤ-zero}
use Rattle.c_tree.specs.declared.program.Program.{Program}
use Rattle.int_rows.specs.declared.row.Aff.{Aff}
use Rattle.int_rows.specs.declared.row.Row.{Row}
use Rattle.int_rows.specs.Systems.{IsRowOf}
use Rattle.nest_tree.specs.declared.kernel.Term.{Term}
use Rattle.nest_tree.specs.declared.made.Made.{Made}
use Rattle.nest_tree.specs.Lists.{IsIn}
use Rattle.nest_tree.specs.Forms.{value, coef, Meets, variable, sum, times}
use Rattle.nest_tree.specs.Pieces.{IsLike}
use Rattle.nest_tree.specs.Terms.{Input, or_zero, IsFound, found}
use Rattle.nest_laws.proofs.Narrow.{coef-added, coef-scaled}
use Rattle.nest_laws.proofs.Points.{length-map, coef-before}
use Rattle.nest_systems.specs.declared.choose.Chosen.{Chosen}
use Rattle.nest_systems.specs.declared.instance.Instance.{Instance}
use Rattle.nest_systems.specs.declared.range.Span.{Span}
use Rattle.nest_systems.specs.declared.seats.Places.{Places}
use Rattle.nest_systems.specs.Choosing.{chosen_of}
use Rattle.nest_systems.specs.Parts.{widened_term, first_cell, extended_terms, count_var, span_rows, term_rows, rows_of_term, value_rows, name_of_term, end_names}
use Rattle.nest_systems.specs.Ranges.{Names, value_span}
use Rattle.nest_systems.specs.Seating.{seat}
use Rattle.nest_systems.specs.Spans.{low_number, high_number, low_row, high_row, unit_form}
use Rattle.nest_systems.specs.Statements.{IsPart}
use Rattle.point_laws.specs.Seats.{Seats, seated_number, placed, placed_row, AreSeats}
use Rattle.point_laws.specs.Seated.{AreApart, IsSeatedSmall}
use Rattle.point_laws.specs.Alike.{IsMet}
use Rattle.point_laws.specs.Standing.{AreStoodFor}
use Rattle.point_laws.specs.Placed.{IsSeatedAt, FitsSeats, RowFitsSeats}
use Rattle.point_laws.specs.Ranges.{IsRanged, HasNoCounts}
use Rattle.point_laws.specs.Values.{AreSmall, BeginsWith, HasCell}
use Rattle.point_laws.specs.Own.{point_at, AreOver, AreFound}
use Rattle.point_laws.proofs.Seated.{coef-other}
use Rattle.point_laws.proofs.Alike.{coef-past}
use Rattle.point_laws.proofs.Standing.{stood_for, within}
use Rattle.point_laws.proofs.Placed.{placed_met}
use Rattle.point_laws.proofs.Values.{get-within, length-range, number-small, small-append, span-wide, low-like, high-like, values_met}
use Rattle.point_laws.proofs.Seating.{StandsIn, HasPlaces, seats-met, seats-at, seats-apart, seats-there}
use Rattle.point_laws.proofs.Readings.{at-got, map-got, nothing-in, reads, read-is, none-missing, none-more}

all-append : {A : Type 0} (P : A → Type 0) (xs ys : List A) → AllByRecursion P xs → AllByRecursion P ys → AllByRecursion P (xs ++ ys)
all-append P [] ys h k = k
all-append P (x ∷ xs) ys h k = (h.0, all-append P xs ys h.1 k)

-- a range speaks of parameters and one term
unit-past : (f g : Aff) (c : ℤ) (t v : ℕ) → IsLike g (sum f (times c (variable t))) → length f.coefs ≤ v → (v ≡ t → ⊥) → coef v g.coefs ≡ pos 0
unit-past f g c t v like l n =
    let a = coef-past f.coefs v l in
    let b : coef v (variable t).coefs ≡ pos 0 = coef-other v t (λ e. n (sym e)) in
    let d = coef-scaled v c (variable t).coefs ∙ ap (λ (z : ℤ). c *ℤ z) b ∙ *ℤ-zero c in
    let e = coef-added v f.coefs (times c (variable t)).coefs in
    like.coefs v ∙ e ∙ omega (arith, ints, a, d)

-- a statement whose variables have their seats in a system, at a point of its own and one of the system, and forms of it that are no wider
pub record IsPlaced (x : Instance) (pl : Places) (s : Seats) (p q : List ℤ) (forms : List Aff) (width : ℕ) : Type 0 where
  pub seats : AreSeats x pl [] s
  pub apart : AreApart s
  pub seated : IsSeatedAt s p q
  pub fits : (f : Aff) → IsIn f forms → length f.coefs ≤ width → IsSeatedSmall s f → FitsSeats s f
  pub there : (t v : ℕ) → slice_get s.terms t ≡ Some (Some v) → (pl.first_term ≤ v) × (v < pl.first_term + length x.chosen.order)
  pub own : Meets p x.rows → AreSmall s.vars (map (placed_row s) x.rows) → Meets q (map (placed_row s) x.rows)
  pub ranges : AreSmall s.vars (map (placed_row s) x.ranges) → Meets q (map (placed_row s) x.ranges)

module _ (head : Program) (made : List Made) (i : Input) (terms : List Term) (rows : List Row) (forms : List Aff) (x : Instance) (vs : List ℤ) (r : IsRanged head made i) (none : HasNoCounts head made)
    (over : AreOver (length head.params + length vs) terms rows) (part : IsPart head made (length vs) terms 0 rows forms x) where
  abbrev first : ℕ
  first = length head.params + length vs

  abbrev p : List ℤ
  p = point_at i terms vs

  first-is : length head.params + length vs ≡ length i.params + length vs
  first-is = ap (λ (n : ℕ). n + length vs) (sym r.count)

  chosen-is : x.chosen ≡ chosen_of first terms 0 rows forms
  chosen-is = part.own_chosen ∙ none-more head made none terms part.held ∙ part.is_held

  -- the choice of terms
  choice : AreStoodFor first (length terms - 0) terms p x.chosen × ((w : Row) → IsIn w rows → IsMet first x.chosen.same w.form) × ((f : Aff) → IsIn f forms → IsMet first x.chosen.same f)
  choice =
      subst (λ (c : Chosen). AreStoodFor first (length terms - 0) terms p c × ((w : Row) → IsIn w rows → IsMet first c.same w.form) × ((f : Aff) → IsIn f forms → IsMet first c.same f)) (sym chosen-is)
      (stood_for first 0 terms p rows forms (reads i terms vs first first-is rows over))

  pub forms-met : (f : Aff) → IsIn f forms → IsMet first x.chosen.same f
  forms-met = choice.2

  -- a variable is a term of the statement
  order-inside : (t : ℕ) → IsIn t x.chosen.order → t < length terms
  order-inside t m = let w = within x.chosen.same t (Some t) (choice.0.order t m) in let n = choice.0.count in omega (arith, w, n)

  pub no-ends : (t : ℕ) → IsIn t x.chosen.ends → ⊥
  no-ends t m = let w = within x.chosen.same t (Some t) (choice.0.ends t m) in let n = choice.0.count in let l = choice.0.late t m in omega (arith, w, n, l)

  pub none-named : end_names x ≡ []
  none-named = ap (flat_map (name_of_term x.terms)) (nothing-in x.chosen.ends no-ends)

  abbrev wide : ℕ
  wide = first + length terms + length part.further

  own-terms : x.terms ≡ map (widened_term wide) terms
  unfolding extended_terms
  own-terms = part.own_terms ∙ ap (λ (l : Names). map (widened_term wide) terms ++ map (first_cell wide) l) (part.are_further ∙ none-missing head made none terms part.held) ∙ append-nil (map (widened_term wide) terms)

  pub terms-length : length x.terms ≡ length terms
  terms-length = ap length own-terms ∙ length-map (widened_term wide) terms

  begins : BeginsWith i.params p
  begins v l = coef-before i.params _ v l

  -- a variable has a cell
  has-cell : AreFound i terms vs → (t : ℕ) → IsIn t x.chosen.order → HasCell i first x.terms p t
  has-cell f t m = by (f t (order-inside t m))
    where
      by : IsFound i (length i.params + length vs) terms p t → HasCell i first x.terms p t
      by (found k u v a e deep) = record {
        term = widened_term wide u;
        is = ap (λ (l : List Term). slice_get l t) own-terms ∙ map-got (widened_term wide) terms t u (at-got terms t u a);
        at = map (value p) u.at;
        cell = e ∙ ap Some (sym (read-is i terms vs first first-is rows over t u (at-got terms t u a) ∙ ap or_zero e));
      }

  pub ranges-met : AreFound i terms vs → AreSmall (first + length x.terms) x.ranges → Meets p x.ranges
  ranges-met f small =
      subst (Meets p) (sym part.ranges)
      (values_met head made i first x.terms x.chosen.order p r none (omega arith) begins (has-cell f) (subst (AreSmall (first + length x.terms)) part.ranges small))

  -- a row holds only terms that have one that stands for them
  abbrev IsHeld : Row → Type 0
  IsHeld w = (length w.form.coefs ≤ first + length terms) × IsMet first x.chosen.same w.form

  rows-held : (ws : List Row) → ((w : Row) → IsIn w ws → IsIn w rows) → AllByRecursion IsHeld ws
  rows-held [] h = tt
  rows-held (w ∷ ws) h = ((over.wide w (h w (inl refl)), choice.1 w (h w (inl refl))), rows-held ws (λ u m. h u (inr m)))

  module _ (small : AreSmall (first + length x.terms) x.ranges) where
    abbrev vars : ℕ
    vars = first + length x.terms

    form-wide : (g : ℕ → ℤ) → length (map g (range_with_len 0 vars)) ≤ first + length terms
    form-wide g = let a = length-map g (range_with_len 0 vars) in let b = length-range 0 vars in let c = terms-length in omega (arith, a, b, c)

    only : (t : ℕ) → IsIn t x.chosen.order → (f g : Aff) (c : ℤ) → IsLike g (sum f (times c (variable (first + t)))) → length f.coefs ≤ first → IsMet first x.chosen.same g
    only t m f g c like l u e = unit-past f g c (first + t) (first + u) like (omega (arith, l)) (λ d.
        let k : u ≡ t = omega (arith, d) in
        let a : Some (Some t) ≡ Some None = sym (choice.0.order t m) ∙ ap (λ (n : ℕ). slice_get x.chosen.same n) (sym k) ∙ e in cc)

    term-held : (t : ℕ) → IsIn t x.chosen.order → AreSmall vars (rows_of_term head made first x.terms t) → AllByRecursion IsHeld (rows_of_term head made first x.terms t)
    unfolding low_row high_row
    term-held t m h = of (slice_get x.terms t) refl h
      where
        by : (u : Term) → slice_get x.terms t ≡ Some u → (o : Option Span) → value_span head made u.array ≡ o → AreSmall vars (span_rows first x.terms (unit_form (first + t) vars) o) → AllByRecursion IsHeld (span_rows first x.terms (unit_form (first + t) vars) o)
        by u e None k h = tt
        by u e (Some s) k h =
            let w = span-wide head made u.array s k in
            let low_wide : length s.low.coefs ≡ length i.params = w.0 ∙ sym r.count in
            let high_wide : length s.high.coefs ≡ length i.params = w.1 ∙ sym r.count in
            let inside : first + t < vars = (let l = get-within x.terms t u e in omega (arith, l)) in
            let after : length i.params ≤ first + t = (let c = r.count in omega (arith, c)) in
            let n : count_var first x.terms s.count ≡ None = ap (count_var first x.terms) (none u.array s k) in
            let a = low-like i s (first + t) vars p inside after low_wide high_wide begins h.0 in
            let b = high-like i s (first + t) vars p inside after low_wide high_wide begins (subst (λ (o : Option ℕ). IsRowOf vars (high_row s (unit_form (first + t) vars) o vars)) n (h.1).0) in
            let lw : length s.low.coefs ≤ first = (let c = w.0 in omega (arith, c)) in
            let hw : length s.high.coefs ≤ first = (let c = w.1 in omega (arith, c)) in
            let top : IsHeld (high_row s (unit_form (first + t) vars) None vars) = (form-wide (high_number s (unit_form (first + t) vars).coefs None), only t m s.high (high_row s (unit_form (first + t) vars) None vars).form (negsuc 0 *ℤ s.high_times) b hw) in (
              (form-wide (low_number s (unit_form (first + t) vars).coefs), only t m s.low (low_row s (unit_form (first + t) vars) vars).form s.low_times a lw),
              (subst (λ (o : Option ℕ). IsHeld (high_row s (unit_form (first + t) vars) o vars)) (sym n) top, tt),
            )

        of : (o : Option Term) → slice_get x.terms t ≡ o → AreSmall vars (term_rows head made first x.terms t o) → AllByRecursion IsHeld (term_rows head made first x.terms t o)
        of None e h = tt
        of (Some u) e h = by u e (value_span head made u.array) refl h

    all-held : (order : List ℕ) → ((t : ℕ) → IsIn t order → IsIn t x.chosen.order) → AreSmall vars (flat_map (rows_of_term head made first x.terms) order) → AllByRecursion IsHeld (flat_map (rows_of_term head made first x.terms) order)
    all-held [] h s = tt
    all-held (t ∷ order) h s =
        let k = small-append vars (rows_of_term head made first x.terms t) (flat_map (rows_of_term head made first x.terms) order) s in
        all-append IsHeld (rows_of_term head made first x.terms t) (flat_map (rows_of_term head made first x.terms) order) (term-held t (h t (inl refl)) k.0) (all-held order (λ u m. h u (inr m)) k.1)

    ranges-held : AllByRecursion IsHeld x.ranges
    unfolding value_rows
    ranges-held = subst (AllByRecursion IsHeld) (sym part.ranges) (all-held x.chosen.order (λ t m. m) (subst (AreSmall vars) part.ranges small))

  -- ---- in a system
  module _ (pl : Places) (s : Seats) (q : List ℤ) (params : pl.params ≡ length head.params) (seats : AreSeats x pl [] s) (places : HasPlaces x pl) (stands : StandsIn x pl p q) where
    begin-is : pl.params + x.levels ≡ first
    begin-is = let a = part.own_levels in omega (arith, params, a)

    stood : AreStoodFor (pl.params + x.levels) (length terms - 0) terms p x.chosen
    stood = subst (λ (n : ℕ). AreStoodFor n (length terms - 0) terms p x.chosen) (sym begin-is) choice.0

    pub apart : AreApart s
    apart = seats-apart x pl s (length terms - 0) terms p q seats stood no-ends places

    pub seated : IsSeatedAt s p q
    seated = seats-at x pl s (length terms - 0) terms p q seats stood no-ends stands

    seats-length : length s.terms ≡ length terms
    seats-length = ap length seats.terms ∙ length-map (seat x pl []) x.chosen.same ∙ choice.0.count

    pub held-fits : (f : Aff) → length f.coefs ≤ first + length terms → IsMet first x.chosen.same f → IsSeatedSmall s f → FitsSeats s f
    held-fits f l m h = record {
      narrow = let a = seats.params in let b = seats.levels in let c = seats-length in let d = begin-is in omega (arith, a, b, c, d, l);
      met =
          let e : s.params + s.levels ≡ pl.params + x.levels = (let a = seats.params in let b = seats.levels in omega (arith, a, b)) in
          subst (λ (n : ℕ). IsMet n s.terms f) (sym e) (seats-met x pl s (length terms - 0) terms p q seats stood no-ends f (subst (λ (n : ℕ). IsMet n x.chosen.same f) (sym begin-is) m));
      small = h;
    }

    all-fit : (ws : List Row) → AllByRecursion IsHeld ws → AreSmall s.vars (map (placed_row s) ws) → AllByRecursion (RowFitsSeats s) ws
    unfolding placed
    all-fit [] h k = tt
    all-fit (w ∷ ws) h k = (held-fits w.form (h.0).0 (h.0).1 (λ v l a b. number-small (seated_number s w.form.coefs) w.form.constant s.vars v (k.0).small l), all-fit ws h.1 k.1)

    pub placed-rows-met : Meets p rows → AreSmall s.vars (map (placed_row s) x.rows) → Meets q (map (placed_row s) x.rows)
    placed-rows-met m k =
        placed_met s x.rows p q apart (all-fit x.rows (subst (AllByRecursion IsHeld) (sym part.own_rows) (rows-held rows (λ w a. a))) k) seated (subst (Meets p) (sym part.own_rows) m)

    pub placed-ranges-met : AreFound i terms vs → AreSmall (first + length x.terms) x.ranges → AreSmall s.vars (map (placed_row s) x.ranges) → Meets q (map (placed_row s) x.ranges)
    placed-ranges-met f h k = placed_met s x.ranges p q apart (all-fit x.ranges (ranges-held h) k) seated (ranges-met f h)

    pub placed-well : AreFound i terms vs → AreSmall (first + length x.terms) x.ranges → IsPlaced x pl s p q forms (first + length terms)
    placed-well f h = record {
      seats = seats;
      apart = apart;
      seated = seated;
      fits = λ g m l. held-fits g l (choice.2 g m);
      there = seats-there x pl s (length terms - 0) terms p q seats stood no-ends;
      own = λ m k. placed_met s x.rows p q apart (all-fit x.rows (subst (AllByRecursion IsHeld) (sym part.own_rows) (rows-held rows (λ w a. a))) k) seated m;
      ranges = placed-ranges-met f h;
    }
