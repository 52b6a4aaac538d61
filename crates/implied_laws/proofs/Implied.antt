-- A form in its seats has its own value at the point of the system, which excludes that it is below 0.
use Rattle.std.proofs.Common.{◌≡◌, inl, ℕ, zero, suc, ◌+◌, ◌≤◌, Bool, true, List, [], ◌∷◌, ◌++◌, map, length, refl, sym, ◌∙◌, ap, subst, arith, ℤ, pos, negsuc, neg_ℤ, ◌+ℤ◌, ◌*ℤ◌, ◌-ℤ◌, ◌≤ℤ◌, Ok, Err}
use Rattle.std.specs.Prelude.{Result}
use Rattle.std.specs.List.{AllByRecursion, list_all, range_with_len}
use Rattle.std.proofs.lemmas.Int.{ints}
use Rattle.std.proofs.lemmas.Bool.{and_parts}
use Rattle.c_tree.specs.declared.program.Program.{Program}
use Rattle.int_rows.specs.declared.row.Aff.{Aff}
use Rattle.int_rows.specs.declared.row.Row.{Row}
use Rattle.int_rows.specs.declared.row.Excess.{Excess}
use Rattle.int_rows.specs.Rows as rows
use Rattle.int_rows.specs.Rows.{dot}
use Rattle.int_rows.specs.Systems.{Rows, pushed, negation, excluded, implied}
use Rattle.int_rows.specs.Exclusion.{when_left}
use Rattle.int_rows.proofs.Following as following
use Rattle.nest_core.specs.Making.{after}
use Rattle.nest_core.specs.Numbers.{is_small}
use Rattle.nest_tree.specs.declared.kernel.Term.{Term}
use Rattle.nest_tree.specs.Forms.{value, coef, Meets}
use Rattle.nest_tree.specs.Terms.{Input}
use Rattle.nest_systems.specs.declared.instance.Instance.{Instance}
use Rattle.nest_systems.specs.Begun.{begun_rows, end_rows}
use Rattle.nest_systems.specs.Choosing.{chosen_of, missing_of}
use Rattle.nest_systems.specs.Parts.{end_names}
use Rattle.nest_systems.specs.Ranges.{Names}
use Rattle.nest_systems.specs.Statements.{IsPart}
use Rattle.point_laws.specs.Own.{own_places, own_rows, point_at, own_point, AreOver, AreFound}
use Rattle.point_laws.specs.Ranges.{IsRanged}
use Rattle.point_laws.specs.Seated.{IsSeatedSmall}
use Rattle.point_laws.specs.Seats.{Seats, seated_number, placed, placed_row, AreSeats}
use Rattle.point_laws.specs.Values.{AreSmall}
use Rattle.point_laws.proofs.Own.{own_met, own_value}
use Rattle.point_laws.proofs.Readings.{no_counts}
use Rattle.point_laws.proofs.Seated.{coef-range}
use Rattle.point_laws.proofs.Sides.{forms-met, none-named}
use Rattle.point_laws.proofs.Values.{meets-once}
use Rattle.acceptance.specs.Systems.{instance_of, seats_of, own_system}
use Rattle.acceptance_laws.proofs.Ranges.{HasWidth, HasSmall, begun-wide, placed-wide, are-small, ranges-small}
use Rattle.acceptance_laws.proofs.Rows.{all-both}
use Rattle.acceptance_laws.proofs.Systems.{pushed-small, pushed-rows}
use Rattle.scanning.specs.Projections.{or_not, is_implied}
use Rattle.implied_laws.specs.Implied.{ImpliedHolds}

-- ---- an answer taken apart
yes : (r : Result Bool Excess) → or_not r ≡ true → r ≡ Ok true
yes (Ok b) h = ap (λ (x : Bool). (let o : Result Bool Excess = Ok x in o)) h
yes (Err e) h = absurd cc

record Decided (r : Result Rows Excess) (decide : Rows → Result Bool Excess) : Type 0 where
  system : Rows
  is : r ≡ Ok system
  yes : decide system ≡ Ok true

decided : (r : Result Rows Excess) (decide : Rows → Result Bool Excess) → after r decide ≡ Ok true → Decided r decide
decided (Ok s) decide h = record { system = s; is = refl; yes = h }
decided (Err e) decide h = absurd cc

-- ---- the negation is pushed, so its numbers are small, and so are those that it negates
negation-small : (s : Rows) (g : Aff) → implied s g ≡ Ok true → HasSmall (negation g)
unfolding implied
negation-small s g h = by (pushed s (negation g)) refl h
  where
    by : (o : Result Rows Excess) → pushed s (negation g) ≡ o → when_left o excluded ≡ Ok true → HasSmall (negation g)
    by (Ok more) e k = pushed-small s (negation g) more e
    by (Err x) e k = absurd cc

turned-small : (z : ℤ) → is_small (neg_ℤ z) ≡ true → is_small z ≡ true
turned-small (pos zero) h = h
turned-small (pos (suc n)) h = h
turned-small (negsuc n) h = h

turned-at : (cs : List ℤ) (c : ℤ) (j : ℕ) → list_all is_small (map neg_ℤ cs ++ c ∷ []) ≡ true → is_small (coef j cs) ≡ true
turned-at [] c j h = refl
turned-at (z ∷ cs) c zero h = turned-small z (and_parts (is_small (neg_ℤ z)) (list_all is_small (map neg_ℤ cs ++ c ∷ [])) h).0
turned-at (z ∷ cs) c (suc j) h = turned-at cs c j (and_parts (is_small (neg_ℤ z)) (list_all is_small (map neg_ℤ cs ++ c ∷ [])) h).1

seated-small : (s : Seats) (f : Aff) → HasSmall (negation (placed s f)) → IsSeatedSmall s f
unfolding placed
seated-small s f h k l a b =
    let e : 0 + k ≡ k = omega arith in
    let is : coef k (map (seated_number s f.coefs) (range_with_len 0 s.vars)) ≡ seated_number s f.coefs k = coef-range (seated_number s f.coefs) 0 s.vars k l ∙ ap (seated_number s f.coefs) e in
    subst (λ (z : ℤ). is_small z ≡ true) is (turned-at (map (seated_number s f.coefs) (range_with_len 0 s.vars)) (negsuc 0 -ℤ f.constant) k h)

-- ---- a statement at a point
module _ (head : Program) (i : Input) (terms : List Term) (own : List Row) (f : Aff) (vs : List ℤ) (ranged : IsRanged head [] i) (over : AreOver (length head.params + length vs) terms own)
    (wide : length f.coefs ≤ length head.params + length vs + length terms) (met : Meets (point_at i terms vs) own) (are_found : AreFound i terms vs) where
  abbrev forms : List Aff
  forms = f ∷ []

  abbrev x : Instance
  x = instance_of head [] (length vs) terms 0 own forms

  part : IsPart head [] (length vs) terms 0 own forms x
  part = record {
    held = chosen_of (length head.params + length vs) terms 0 own forms;
    further = missing_of head [] terms (chosen_of (length head.params + length vs) terms 0 own forms);
    is_held = refl;
    are_further = refl;
    own_levels = refl;
    own_terms = refl;
    own_chosen = refl;
    own_rows = refl;
    ranges = refl;
  }

  abbrev seats : Seats
  seats = seats_of head x

  are_seats : AreSeats x (own_places head x) (end_names x) seats
  are_seats = record { params = refl; levels = refl; first_level = refl; terms = refl; vars = refl }

  small-ranges : AreSmall (length head.params + length vs + length x.terms) x.ranges
  small-ranges = ranges-small head (length head.params + length vs) x.terms x.chosen.order

  own-wide : AllByRecursion (HasWidth seats.vars) (own_rows head [] x seats)
  own-wide =
      let ends = none-named head [] i terms own forms x vs ranged (no_counts head) over part in
      all-both (HasWidth seats.vars) (begun_rows head seats.vars) _ (begun-wide head seats.vars)
      (all-both (HasWidth seats.vars) (map (placed_row seats) x.rows) _ (placed-wide seats x.rows)
      (all-both (HasWidth seats.vars) (map (placed_row seats) x.ranges) _ (placed-wide seats x.ranges)
      (subst (λ (l : Names). AllByRecursion (HasWidth seats.vars) (end_rows head [] seats.vars (own_places head x).first_end l)) (sym ends) tt)))

  abbrev q : List ℤ
  q = own_point i terms vs x

  system-met : (s : Rows) → own_system head [] x ≡ Ok s → Meets q s.rows
  system-met s e =
      let p = pushed-rows (own_rows head [] x seats) (record { vars = seats.vars; rows = [] }) s e in
      subst (Meets q) (sym p.1)
      (own_met head [] i terms own forms x seats vs ranged (no_counts head) over part are_seats met are_found small-ranges (are-small seats.vars (own_rows head [] x seats) own-wide p.0))

  same-value : (g : Aff) → rows.value (pos 1) q g ≡ value q g
  same-value g = once (dot g.coefs q) g.constant
    where
      once : (a c : ℤ) → a +ℤ (pos 1 *ℤ c) ≡ a +ℤ c
      once a c = omega (arith, ints)

  implied-at : (s : Rows) → own_system head [] x ≡ Ok s → implied s (placed seats f) ≡ Ok true → pos 0 ≤ℤ value (point_at i terms vs) f
  implied-at s e h =
      let at : pos 0 ≤ℤ rows.value (pos 1) q (placed seats f) = following.implied_holds s (placed seats f) q h (meets-once q s.rows (system-met s e)) in
      let is = own_value head [] i terms own forms x seats vs ranged (no_counts head) over part are_seats f wide (forms-met head [] i terms own forms x vs ranged (no_counts head) over part f (inl refl))
      (seated-small seats f (negation-small s (placed seats f) h)) in
      subst (λ (z : ℤ). pos 0 ≤ℤ z) (same-value (placed seats f) ∙ is) at

  holds : is_implied head [] (length vs) terms own f ≡ true → pos 0 ≤ℤ value (point_at i terms vs) f
  unfolding is_implied
  holds h =
      let d : Decided (own_system head [] x) (λ s. implied s (placed seats f)) = decided (own_system head [] x) (λ s. implied s (placed seats f)) (yes (after (own_system head [] x) (λ s. implied s (placed seats f))) h) in
      implied-at d.system d.is d.yes

pub implied_law : ImpliedHolds
implied_law head i terms own f vs ranged over wide met found h = holds head i terms own f vs ranged over wide met found h
