-- The system of two statements is met at points of both.
use Rattle.std.proofs.Common.{◌≡◌, ◌⊎◌, inl, inr, ℕ, zero, suc, ◌+◌, ◌-◌, ◌<◌, ◌≤◌, Bool, true, false, List, [], ◌∷◌, ◌++◌, map, length, refl, sym, ◌∙◌, ap, subst, subst₂, arith, ℤ, pos, negsuc, ◌-ℤ◌, nat_eq, nat_lt, nat_le, ◌&&◌}
use Rattle.std.specs.Prelude.{Option, Some, None, slice_get}
use Rattle.std.specs.List.{filter, range_with_len}
use Rattle.std.specs.Int.{w128, saturate_signed}
use Rattle.std.proofs.lemmas.Int.{ints}
use Rattle.std.proofs.lemmas.Bool.{eqb-true, le-ltb}
use Rattle.int_rows.specs.declared.row.Aff.{Aff}
use Rattle.int_rows.specs.declared.row.Row.{Row}
use Rattle.int_rows.specs.Systems.{IsRowOf}
use Rattle.nest_core.specs.Numbers.{is_small}
use Rattle.nest_tree.specs.declared.body.Access.{Access}
use Rattle.nest_tree.specs.declared.kernel.Kernel.{Kernel}
use Rattle.nest_tree.specs.declared.kernel.KernelRow.{KernelRow}
use Rattle.nest_tree.specs.declared.kernel.Nest.{Nest}
use Rattle.nest_tree.specs.declared.kernel.Term.{Term}
use Rattle.nest_tree.specs.Carriers.{AgreeOn}
use Rattle.nest_tree.specs.Lists.{IsIn}
use Rattle.nest_tree.specs.Forms.{value, coef, Meets, MeetsRow}
use Rattle.nest_tree.specs.Kernels.{point, IsPointOf}
use Rattle.nest_tree.specs.Terms.{Input}
use Rattle.nest_laws.proofs.Lists.{in_append-left, in_append-right}
use Rattle.nest_laws.proofs.Points.{coef-before, length-map, by_places}
use Rattle.nest_systems.specs.declared.instance.Instance.{Instance}
use Rattle.nest_systems.specs.declared.seats.Places.{Places}
use Rattle.nest_systems.specs.Begun.{begun_rows, end_rows}
use Rattle.nest_systems.specs.Cells.{cells, subscripts}
use Rattle.nest_systems.specs.Parts.{end_names}
use Rattle.nest_systems.specs.Placing as placing
use Rattle.nest_systems.specs.Placing.{numbers_there, small_total, seated_levels}
use Rattle.nest_systems.specs.Ranges.{Names}
use Rattle.nest_systems.specs.Spans.{unit_form, unit_at}
use Rattle.nest_systems.specs.Statements.{IsPart, plain_row}
use Rattle.nest_systems.specs.Sums.{number_at, stopped_difference}
use Rattle.point_laws.specs.Seats.{Seats, is_level, seated_number, placed, placed_row, AreSeats, plain}
use Rattle.point_laws.specs.Own.{chosen_values, point_at}
use Rattle.point_laws.specs.Seated.{IsSeatedSmall}
use Rattle.point_laws.specs.Values.{AreSmall, BeginsWith}
use Rattle.point_laws.proofs.Begun.{begun_met, value-unit}
use Rattle.point_laws.proofs.Own.{behind, before, chosen-at}
use Rattle.point_laws.proofs.Placed.{placed_value}
use Rattle.point_laws.proofs.Plain.{are-plain}
use Rattle.point_laws.proofs.Seated.{number-coef, coef-range}
use Rattle.point_laws.proofs.Seating.{StandsIn, HasPlaces}
use Rattle.point_laws.proofs.Sides.{IsPlaced, none-named, placed-well}
use Rattle.point_laws.proofs.Stopped.{small-near, stopped-is}
use Rattle.point_laws.proofs.Values.{length-range, meets-append, small-append}
use Rattle.depend_test.specs.Orders.{difference_at, difference_row, order_rows}
use Rattle.depend_test.specs.Pairs.{is_new, pair_ends, first_end, pair_vars, first_places, second_places, both_rows, pair_rows}
use Rattle.depend_test.specs.Systems.{subscript_rows}
use Rattle.depend_test.specs.declared.pair.Pair.{Pair}
use Rattle.depend_test.specs.declared.side.Side.{Side}
use Rattle.pair_laws.specs.Pairs.{pair_point, ArePairAt, PairIsMet, SubscriptsAreMet, StandBefore, OrdersAreMet}
use Rattle.pair_laws.proofs.Differences.{IsStep, DifferenceIs, DifferencesAre, small-difference, difference-value, equal-met, order-met, agree-self}

-- ---- where terms of one statement stand, the other has no number
there_or_not : (ts : List (Option ℕ)) (v : ℕ) → ((t : ℕ) × (slice_get ts t ≡ Some (Some v))) ⊎ ((n : ℕ) (cs : List ℤ) → numbers_there n ts v cs ≡ [])
there_or_not [] v = inr (λ n cs. refl)
there_or_not (None ∷ ts) v = elim (there_or_not ts v) [ inl h ↦ inl (suc h.0, h.1) | inr h ↦ inr (λ n cs. h (n + 1) cs) ]
there_or_not (Some w ∷ ts) v = by (nat_eq w v) refl (there_or_not ts v)
  where
    by : (b : Bool) → nat_eq w v ≡ b → ((t : ℕ) × (slice_get ts t ≡ Some (Some v))) ⊎ ((n : ℕ) (cs : List ℤ) → numbers_there n ts v cs ≡ [])
        → ((t : ℕ) × (slice_get (Some w ∷ ts) t ≡ Some (Some v))) ⊎ ((n : ℕ) (cs : List ℤ) → numbers_there n (Some w ∷ ts) v cs ≡ [])
    by true e h = inl (0, ap (λ (k : ℕ). Some (Some k)) (eqb-true w v e))
    by false e (inl h) = inl (suc h.0, h.1)
    by false e (inr h) = inr (λ n cs. rw e (h (n + 1) cs))

-- behind its parameters and levels a statement's form has no number where no term stands
seated-none : (s : Seats) (cs : List ℤ) (v : ℕ) → nat_lt v s.params ≡ false → is_level s v ≡ false → ((n : ℕ) (ds : List ℤ) → numbers_there n s.terms v ds ≡ []) → seated_number s cs v ≡ pos 0
unfolding seated_number small_total
seated-none s cs v a b h = rw (a, b, h (s.params + s.levels) cs) refl

no-level : (s : Seats) (v : ℕ) → s.first_level + s.levels ≤ v → is_level s v ≡ false
no-level s v h = pick (nat_le s.first_level v) (nat_lt (v - s.first_level) s.levels) (le-ltb (v - s.first_level) s.levels (omega (arith, h)))
  where
    pick : (b c : Bool) → c ≡ false → (b && c) ≡ false
    pick true c e = e
    pick false c e = refl

no-parameter : (s : Seats) (v : ℕ) → s.params ≤ v → nat_lt v s.params ≡ false
no-parameter s v h = le-ltb v s.params h

-- a number is small where its difference from 0 is
small-turned : (y : ℤ) → is_small (pos 0 -ℤ y) ≡ true → is_small y ≡ true
small-turned (pos zero) h = refl
small-turned (pos (suc n)) h = let e : pos 0 -ℤ pos (suc n) ≡ negsuc n = omega (arith, ints) in subst (λ (z : ℤ). is_small z ≡ true) e h
small-turned (negsuc n) h = let e : pos 0 -ℤ negsuc n ≡ pos (suc n) = omega (arith, ints) in subst (λ (z : ℤ). is_small z ≡ true) e h

-- two numbers, the difference of which is small
abbrev DiffersLittle : ℤ → ℤ → Type 0
DiffersLittle x y = (is_small (saturate_signed w128 (x -ℤ y)) ≡ true) ⊎ (is_small (saturate_signed w128 (y -ℤ x)) ≡ true)

small-alone : (x y : ℤ) → y ≡ pos 0 → DiffersLittle x y → is_small x ≡ true
small-alone x y e (inl h) = let a : saturate_signed w128 (x -ℤ y) ≡ x = stopped-is (x -ℤ y) (small-near _ h) ∙ omega (arith, ints, e) in subst (λ (z : ℤ). is_small z ≡ true) a h
small-alone x y e (inr h) =
    let b : y -ℤ x ≡ pos 0 -ℤ x = ap (λ (z : ℤ). z -ℤ x) e in
    let a : saturate_signed w128 (y -ℤ x) ≡ pos 0 -ℤ x = stopped-is (y -ℤ x) (small-near _ h) ∙ b in
    small-turned x (subst (λ (z : ℤ). is_small z ≡ true) a h)

-- the terms of two statements stand apart: where one of the first stands, the second has no number
abbrev HasNone : Seats → Seats → Type 0
HasNone s t = (u v : ℕ) → slice_get s.terms u ≡ Some (Some v) → (cs : List ℤ) → seated_number t cs v ≡ pos 0

side-small : (s t : Seats) (f g : Aff) → HasNone s t → ((v : ℕ) → v < s.vars → DiffersLittle (seated_number s f.coefs v) (seated_number t g.coefs v)) → IsSeatedSmall s f
side-small s t f g h d v l a b = elim (there_or_not s.terms v) [
  | inl k ↦ small-alone (seated_number s f.coefs v) (seated_number t g.coefs v) (h k.0 v k.1 g.coefs) (d v l)
  | inr k ↦ (let z : seated_number s f.coefs v ≡ pos 0 = seated-none s f.coefs v a b k in ap is_small z)
]

placed-length : (s : Seats) (f : Aff) → length (placed s f).coefs ≡ s.vars
unfolding placed
placed-length s f = length-map (seated_number s f.coefs) (range_with_len 0 s.vars) ∙ length-range 0 s.vars

placed-number : (s : Seats) (f : Aff) (v : ℕ) → v < s.vars → number_at (placed s f).coefs v ≡ seated_number s f.coefs v
unfolding placed
placed-number s f v l = let e : 0 + v ≡ v = omega arith in number-coef (map (seated_number s f.coefs) (range_with_len 0 s.vars)) v ∙ coef-range (seated_number s f.coefs) 0 s.vars v l ∙ ap (seated_number s f.coefs) e

-- the rows of a point
point-meets : (i : Input) (n : Nest) (vs : List ℤ) → IsPointOf i n vs → Meets (point i n vs) (map plain_row n.rows)
point-meets i n vs h = each n.rows (λ r a. (h.meets r a).holds)
  where
    each : (rows : List KernelRow) → ((r : KernelRow) → IsIn r rows → MeetsRow (point i n vs) r.row) → Meets (point i n vs) (map plain_row rows)
    each [] k = tt
    each (r ∷ rows) k = (k r (inl refl), each rows (λ s a. k s (inr a)))

-- a cell's subscripts are among those of all
in-subscripts : (all : List Access) (a : Access) (f : Aff) → IsIn a all → IsIn f a.at → IsIn f (subscripts all)
in-subscripts [] a f h k = absurd h
in-subscripts (b ∷ all) a f (inl e) k = in_append-left f b.at (subscripts all) (subst (λ (x : Access). IsIn f x.at) e k)
in-subscripts (b ∷ all) a f (inr h) k = in_append-right f b.at (subscripts all) (in-subscripts all a f h k)

-- ---- differences of placed forms
module _ (x y : Instance) (pl pm : Places) (s t : Seats) (p o q : List ℤ) (fs gs : List Aff) (width height : ℕ) (A : IsPlaced x pl s p q fs width) (B : IsPlaced y pm t o q gs height) (same : s.vars ≡ t.vars) (none : HasNone s t) (turned : HasNone t s) where
  differ-little : (f g : Aff) (e : Bool) (l : ℤ) (st : IsStep l) → IsRowOf s.vars (difference_row s.vars e (placed s f) (placed t g) l) → (v : ℕ) → v < s.vars → is_small (saturate_signed w128 (seated_number s f.coefs v -ℤ seated_number t g.coefs v)) ≡ true
  unfolding difference_at stopped_difference
  differ-little f g e l st row v h =
      let a = placed-number s f v h in
      let b = placed-number t g v (omega (arith, h, same)) in
      subst₂ (λ (z w : ℤ). is_small (saturate_signed w128 (z -ℤ w)) ≡ true) a b (small-difference s.vars e (placed s f) (placed t g) l st row v h)

  difference : (f g : Aff) → IsIn f fs → IsIn g gs → length f.coefs ≤ width → length g.coefs ≤ height → DifferenceIs s.vars q (placed s f) (placed t g) (value p f) (value o g)
  difference f g a b wf wg e l st row =
      let little = differ-little f g e l st row in
      let small_f : IsSeatedSmall s f = side-small s t f g none (λ v h. inl (little v h)) in
      let small_g : IsSeatedSmall t g = side-small t s g f turned (λ v h. inr (little v (omega (arith, h, same)))) in
      let c = placed_value s f p q A.apart (A.fits f a wf small_f) A.seated in
      let d = placed_value t g o q B.apart (B.fits g b wg small_g) B.seated in
      let lf = placed-length s f in
      let lg = placed-length t g in
      let k = difference-value s.vars e (placed s f) (placed t g) l st row (omega (arith, lf)) (omega (arith, lg, same)) q in
      omega (arith, ints, c, d, k)

  pub differences : (us vs : List Aff) → ((f : Aff) → IsIn f us → IsIn f fs × (length f.coefs ≤ width)) → ((g : Aff) → IsIn g vs → IsIn g gs × (length g.coefs ≤ height))
      → DifferencesAre s.vars q (map (placed s) us) (map (placed t) vs) (map (value p) us) (map (value o) vs)
  differences [] vs h k = tt
  differences (f ∷ us) [] h k = tt
  differences (f ∷ us) (g ∷ vs) h k =
      let a = h f (inl refl) in
      let b = k g (inl refl) in
      (difference f g a.0 b.0 a.1 b.1, differences us vs (λ z m. h z (inr m)) (λ z m. k z (inr m)))

-- ---- differences of levels
abbrev coefs-from : List ℤ → ℕ → ℕ → List ℤ
coefs-from q b n = map (λ v. coef v q) (range_with_len b n)

unit-length : (v vars : ℕ) → length (unit_form v vars).coefs ≡ vars
unfolding unit_form
unit-length v vars = length-map (unit_at v) (range_with_len 0 vars) ∙ length-range 0 vars

unit-differences : (q : List ℤ) (vars w b n c m : ℕ) → vars ≡ w → b + n ≤ vars → c + m ≤ vars
    → DifferencesAre vars q (map (λ v. unit_form v vars) (range_with_len b n)) (map (λ v. unit_form v w) (range_with_len c m)) (coefs-from q b n) (coefs-from q c m)
unit-differences q vars w b zero c m e h k = tt
unit-differences q vars w b (suc n) c zero e h k = tt
unit-differences q vars w b (suc n) c (suc m) e h k = (one, unit-differences q vars w (b + 1) n (c + 1) m e (omega (arith, h)) (omega (arith, k)))
  where
    one : DifferenceIs vars q (unit_form b vars) (unit_form c w) (coef b q) (coef c q)
    one equal l st row =
        let x = value-unit b vars q (omega (arith, h)) in
        let y = value-unit c w q (omega (arith, k, e)) in
        let lx = unit-length b vars in
        let ly = unit-length c w in
        let d = difference-value vars equal (unit_form b vars) (unit_form c w) l st row (omega (arith, lx)) (omega (arith, ly, e)) q in
        omega (arith, ints, x, y, d)

levels-are : (q xs : List ℤ) (b n : ℕ) → length xs ≡ n → ((k : ℕ) → k < n → coef (b + k) q ≡ coef k xs) → coefs-from q b n ≡ xs
levels-are q xs b n e h =
    let l : length (coefs-from q b n) ≡ n = length-map (λ v. coef v q) (range_with_len b n) ∙ length-range b n in
    by_places (coefs-from q b n) xs (l ∙ sym e) (λ k a. coef-range (λ v. coef v q) b n k (omega (arith, a, l)) ∙ h k (omega (arith, a, l)))

-- ---- two statements at points of theirs
module _ (k : Kernel) (i : Input) (n m : Nest) (fs gs : List Aff) (one other : Side) (w : Pair) (vs us : List ℤ) (h : ArePairAt k i n m fs gs one other w vs us) where
  abbrev params : ℕ
  params = length k.head.params

  abbrev a : Instance
  a = one.instance

  abbrev b : Instance
  b = other.instance

  abbrev s : Seats
  s = plain w.first

  abbrev t : Seats
  t = plain w.second

  abbrev q : List ℤ
  q = pair_point i n m vs us one other

  abbrev p : List ℤ
  p = point_at i n.terms vs

  abbrev o : List ℤ
  o = point_at i m.terms us

  abbrev forms : Nest → List Aff → List Aff
  forms n fs = subscripts (cells n) ++ fs

  first-part : IsPart k.head k.made (length vs) n.terms 0 (map plain_row n.rows) (forms n fs) a
  first-part = subst (λ (l : ℕ). IsPart k.head k.made l n.terms 0 (map plain_row n.rows) (forms n fs) a) (sym h.first.deep) h.first.side.part

  second-part : IsPart k.head k.made (length us) m.terms 0 (map plain_row m.rows) (forms m gs) b
  second-part = subst (λ (l : ℕ). IsPart k.head k.made l m.terms 0 (map plain_row m.rows) (forms m gs) b) (sym h.second.deep) h.second.side.part

  first-levels : a.levels ≡ length vs
  first-levels = first-part.own_levels

  second-levels : b.levels ≡ length us
  second-levels = second-part.own_levels

  no-ends : pair_ends a b ≡ []
  no-ends =
      let x = none-named k.head k.made i n.terms (map plain_row n.rows) (forms n fs) a vs h.ranged h.counts h.first.over first-part in
      let y = none-named k.head k.made i m.terms (map plain_row m.rows) (forms m gs) b us h.ranged h.counts h.second.over second-part in
      ap (λ (l : Names). l ++ filter (is_new l) (end_names b)) x ∙ ap (λ (l : Names). filter (is_new []) l) y

  begins : BeginsWith i.params q
  begins v l = coef-before i.params _ v l

  chosen-length : length (chosen_values i n.terms vs a.chosen.order) ≡ length a.chosen.order
  chosen-length = length-map _ a.chosen.order

  first-level-at : (l : ℕ) → l < length vs → coef (params + l) q ≡ coef l vs
  first-level-at l c = behind i.params _ params l h.ranged.count ∙ before vs _ (length vs) l refl c

  second-level-at : (l : ℕ) → l < length us → coef (params + a.levels + l) q ≡ coef l us
  second-level-at l c =
      let e : params + a.levels + l ≡ params + (length vs + l) = (let d = first-levels in omega (arith, d)) in
      ap (λ (z : ℕ). coef z q) e ∙ behind i.params _ params (length vs + l) h.ranged.count ∙ behind vs _ (length vs) l refl ∙ before us _ (length us) l refl c

  own-level-at : (terms : List Term) (xs : List ℤ) (l : ℕ) → l < length xs → coef (params + l) (point_at i terms xs) ≡ coef l xs
  own-level-at terms xs l c = behind i.params _ params l h.ranged.count ∙ before xs _ (length xs) l refl c

  first-stands : StandsIn a (first_places params a b) p q
  first-stands = record {
    params = λ v l. (let c = h.ranged.count in coef-before i.params _ v (omega (arith, c, l)) ∙ sym (coef-before i.params _ v (omega (arith, c, l))));
    levels = λ l c. (let d = first-levels in first-level-at l (omega (arith, c, d)) ∙ sym (own-level-at n.terms vs l (omega (arith, c, d))));
    terms = λ j t at.
        let c = h.ranged.count in
        let d = first-levels in
        let f = second-levels in
        let e : params + a.levels + b.levels + j ≡ params + (length vs + (length us + j)) = omega (arith, d, f) in
        let g : length i.params + length vs + t ≡ params + a.levels + t = omega (arith, c, d) in
        ap (λ (z : ℕ). coef z q) e ∙ behind i.params _ params (length vs + (length us + j)) c ∙ behind vs _ (length vs) (length us + j) refl ∙ behind us _ (length us) j refl
        ∙ chosen-at i n.terms vs _ a.chosen.order j t at ∙ ap (λ (z : ℕ). coef z p) g;
  }

  second-stands : StandsIn b (second_places params a b) o q
  second-stands = record {
    params = λ v l. (let c = h.ranged.count in coef-before i.params _ v (omega (arith, c, l)) ∙ sym (coef-before i.params _ v (omega (arith, c, l))));
    levels = λ l c. (let d = second-levels in second-level-at l (omega (arith, c, d)) ∙ sym (own-level-at m.terms us l (omega (arith, c, d))));
    terms = λ j t at.
        let c = h.ranged.count in
        let d = first-levels in
        let f = second-levels in
        let e : params + a.levels + b.levels + length a.chosen.order + j ≡ params + (length vs + (length us + (length a.chosen.order + j))) = omega (arith, d, f) in
        let g : length i.params + length us + t ≡ params + b.levels + t = omega (arith, c, f) in
        ap (λ (z : ℕ). coef z q) e ∙ behind i.params _ params (length vs + (length us + (length a.chosen.order + j))) c ∙ behind vs _ (length vs) (length us + (length a.chosen.order + j)) refl
        ∙ behind us _ (length us) (length a.chosen.order + j) refl ∙ behind (chosen_values i n.terms vs a.chosen.order) _ (length a.chosen.order) j chosen-length
        ∙ chosen-at i m.terms us _ b.chosen.order j t at ∙ ap (λ (z : ℕ). coef z o) g;
  }

  first-room : HasPlaces a (first_places params a b)
  first-room = record { first = omega arith; levels = omega arith; terms = omega arith }

  second-room : HasPlaces b (second_places params a b)
  second-room = record { first = omega arith; levels = omega arith; terms = omega arith }

  first-placed : IsPlaced a (first_places params a b) s p q (forms n fs) (params + length vs + length n.terms)
  first-placed =
      placed-well k.head k.made i n.terms (map plain_row n.rows) (forms n fs) a vs h.ranged h.counts h.first.over first-part (first_places params a b) s q refl
      (subst (λ (l : Names). AreSeats a (first_places params a b) l s) no-ends (are-plain a (first_places params a b) (pair_ends a b) w.first h.pair.first)) first-room first-stands h.first.found h.first.small

  second-placed : IsPlaced b (second_places params a b) t o q (forms m gs) (params + length us + length m.terms)
  second-placed =
      placed-well k.head k.made i m.terms (map plain_row m.rows) (forms m gs) b us h.ranged h.counts h.second.over second-part (second_places params a b) t q refl
      (subst (λ (l : Names). AreSeats b (second_places params a b) l t) no-ends (are-plain b (second_places params a b) (pair_ends a b) w.second h.pair.second)) second-room second-stands h.second.found h.second.small

  same-vars : s.vars ≡ t.vars
  same-vars = h.pair.first.vars ∙ sym h.pair.second.vars

  first-alone : HasNone s t
  first-alone u v e cs =
      let r = first-placed.there u v e in
      let low = r.0 in let top = r.1 in
      let x = h.pair.second.params in let y = h.pair.second.levels in let z = h.pair.second.first_level in
      seated-none t cs v (no-parameter t v (omega (arith, low, x))) (no-level t v (omega (arith, low, y, z)))
      (elim (there_or_not t.terms v) [
        | inl g ↦ absurd (let d = second-placed.there g.0 v g.1 in let c = d.0 in omega (arith, c, top))
        | inr g ↦ g
      ])

  second-alone : HasNone t s
  second-alone u v e cs =
      let r = second-placed.there u v e in
      let low = r.0 in
      let x = h.pair.first.params in let y = h.pair.first.levels in let z = h.pair.first.first_level in
      seated-none s cs v (no-parameter s v (omega (arith, low, x))) (no-level s v (omega (arith, low, y, z)))
      (elim (there_or_not s.terms v) [
        | inl g ↦ absurd (let d = first-placed.there g.0 v g.1 in let c = d.1 in omega (arith, c, low))
        | inr g ↦ g
      ])

  -- differences of forms of the first and the second, and the other way round
  forth : (xs ys : List Aff) → ((f : Aff) → IsIn f xs → IsIn f (forms n fs)) → ((g : Aff) → IsIn g ys → IsIn g (forms m gs)) → DifferencesAre s.vars q (map (placed s) xs) (map (placed t) ys) (map (value p) xs) (map (value o) ys)
  forth xs ys c d =
      differences a b (first_places params a b) (second_places params a b) s t p o q (forms n fs) (forms m gs) (params + length vs + length n.terms) (params + length us + length m.terms) first-placed second-placed same-vars first-alone second-alone xs ys
      (λ f z. (c f z, h.first.forms f (c f z))) (λ g z. (d g z, h.second.forms g (d g z)))

  back : (xs ys : List Aff) → ((f : Aff) → IsIn f xs → IsIn f (forms n fs)) → ((g : Aff) → IsIn g ys → IsIn g (forms m gs)) → DifferencesAre t.vars q (map (placed t) ys) (map (placed s) xs) (map (value o) ys) (map (value p) xs)
  back xs ys c d =
      differences b a (second_places params a b) (first_places params a b) t s o p q (forms m gs) (forms n fs) (params + length us + length m.terms) (params + length vs + length n.terms) second-placed first-placed (sym same-vars) second-alone first-alone ys xs
      (λ g z. (d g z, h.second.forms g (d g z))) (λ f z. (c f z, h.first.forms f (c f z)))

  -- the rows that speak of no order
  pub rows-met : AreSmall (pair_vars params a b) (pair_rows k a b w.first w.second) → Meets q (pair_rows k a b w.first w.second)
  unfolding placed seated_number placing.placed placing.seated_number
  rows-met small =
      let vars : ℕ = pair_vars params a b in
      let ends : List Row = end_rows k.head k.made vars (first_end params a b) (pair_ends a b) in
      let x = small-append vars (begun_rows k.head vars) (both_rows a b w.first w.second ++ ends) small in
      let y = small-append vars (both_rows a b w.first w.second) ends x.1 in
      let z = small-append vars (map (placed_row s) a.rows) (map (placed_row t) b.rows ++ (map (placed_row s) a.ranges ++ map (placed_row t) b.ranges)) y.0 in
      let u = small-append vars (map (placed_row t) b.rows) (map (placed_row s) a.ranges ++ map (placed_row t) b.ranges) z.1 in
      let v = small-append vars (map (placed_row s) a.ranges) (map (placed_row t) b.ranges) u.1 in
      let first_vars : vars ≡ s.vars = sym h.pair.first.vars in
      let second_vars : vars ≡ t.vars = sym h.pair.second.vars in
      meets-append q (begun_rows k.head vars) (both_rows a b w.first w.second ++ ends) (begun_met k.head k.made i vars q h.ranged (omega arith) begins)
      (meets-append q (both_rows a b w.first w.second) ends
      (meets-append q (map (placed_row s) a.rows) _ (first-placed.own (subst (Meets p) (sym first-part.own_rows) (point-meets i n vs h.first.at)) (subst (λ (c : ℕ). AreSmall c (map (placed_row s) a.rows)) first_vars z.0))
      (meets-append q (map (placed_row t) b.rows) _ (second-placed.own (subst (Meets o) (sym second-part.own_rows) (point-meets i m us h.second.at)) (subst (λ (c : ℕ). AreSmall c (map (placed_row t) b.rows)) second_vars u.0))
      (meets-append q (map (placed_row s) a.ranges) (map (placed_row t) b.ranges) (first-placed.ranges (subst (λ (c : ℕ). AreSmall c (map (placed_row s) a.ranges)) first_vars v.0))
      (second-placed.ranges (subst (λ (c : ℕ). AreSmall c (map (placed_row t) b.ranges)) second_vars v.1)))))
      (subst (λ (l : Names). Meets q (end_rows k.head k.made vars (first_end params a b) l)) (sym no-ends) tt))

  pub cells-met : (c d : Access) → IsIn c (cells n) → IsIn d (cells m) → map (value p) c.at ≡ map (value o) d.at → AreSmall w.first.vars (subscript_rows w c d) → Meets q (subscript_rows w c d)
  unfolding placed seated_number placing.placed placing.seated_number
  cells-met c d x y e small =
      equal-met w.first.vars q (length c.at) (map (placed s) c.at) (map (placed t) d.at) (map (value p) c.at) (map (value o) d.at)
      (forth c.at d.at (λ f z. in_append-left f (subscripts (cells n)) fs (in-subscripts (cells n) c f x z)) (λ g z. in_append-left g (subscripts (cells m)) gs (in-subscripts (cells m) d g y z)))
      (subst (λ (l : ℕ). AgreeOn l (map (value p) c.at) (map (value o) d.at)) (length-map (value p) c.at) (agree-self (map (value p) c.at) (map (value o) d.at) e)) small

  pub old-met : (carrier shared : ℕ) → StandBefore carrier shared (map (value p) fs) (map (value o) gs) → AreSmall w.first.vars (order_rows w.first.vars carrier shared w.first_old w.second_old) → Meets q (order_rows w.first.vars carrier shared w.first_old w.second_old)
  unfolding placed seated_number placing.placed placing.seated_number
  old-met carrier shared e small =
      let d : DifferencesAre w.first.vars q (map (placed t) gs) (map (placed s) fs) (map (value o) gs) (map (value p) fs) =
      subst (λ (v : ℕ). DifferencesAre v q (map (placed t) gs) (map (placed s) fs) (map (value o) gs) (map (value p) fs)) (sym same-vars)
      (back fs gs (λ f z. in_append-right f (subscripts (cells n)) fs z) (λ g z. in_append-right g (subscripts (cells m)) gs z)) in
      let x : w.first_old ≡ map (placed s) fs = h.pair.first_old ∙ ap (map (placed s)) h.first.side.old in
      let y : w.second_old ≡ map (placed t) gs = h.pair.second_old ∙ ap (map (placed t)) h.second.side.old in
      order-met w.first.vars q carrier shared w.first_old w.second_old (map (value p) fs) (map (value o) gs)
      (subst₂ (λ (xs ys : List Aff). DifferencesAre w.first.vars q ys xs (map (value o) gs) (map (value p) fs)) (sym x) (sym y) d) e small

  pub new-met : (carrier shared : ℕ) → StandBefore carrier shared us vs → AreSmall w.first.vars (order_rows w.first.vars carrier shared w.second_new w.first_new) → Meets q (order_rows w.first.vars carrier shared w.second_new w.first_new)
  unfolding seated_levels
  new-met carrier shared e small =
      let x = h.pair.first.first_level in let y = h.pair.first.levels in let z = h.pair.second.first_level in let v = h.pair.second.levels in
      let fl = first-levels in let sl = second-levels in let fv = h.pair.first.vars in let sv = h.pair.second.vars in
      let first : coefs-from q w.first.first_level w.first.levels ≡ vs = levels-are q vs w.first.first_level w.first.levels (omega (arith, y, fl)) (λ j c. ap (λ (l : ℕ). coef (l + j) q) x ∙ first-level-at j (omega (arith, c, y, fl))) in
      let second : coefs-from q w.second.first_level w.second.levels ≡ us = levels-are q us w.second.first_level w.second.levels (omega (arith, v, sl)) (λ j c. ap (λ (l : ℕ). coef (l + j) q) z ∙ second-level-at j (omega (arith, c, v, sl))) in
      let d = unit-differences q w.first.vars w.second.vars w.first.first_level w.first.levels w.second.first_level w.second.levels same-vars (omega (arith, x, y, fv)) (omega (arith, z, v, fv)) in
      order-met w.first.vars q carrier shared w.second_new w.first_new us vs
      (units w.first_new w.second_new h.pair.first_new h.pair.second_new (subst₂ (λ (cs ds : List ℤ). DifferencesAre w.first.vars q (map (λ v. unit_form v w.first.vars) (range_with_len w.first.first_level w.first.levels)) (map (λ v. unit_form v w.second.vars) (range_with_len w.second.first_level w.second.levels)) cs ds) first second d)) e small
    where
      units : (xs ys : List Aff) → xs ≡ seated_levels w.first → ys ≡ seated_levels w.second
          → DifferencesAre w.first.vars q (map (λ v. unit_form v w.first.vars) (range_with_len w.first.first_level w.first.levels)) (map (λ v. unit_form v w.second.vars) (range_with_len w.second.first_level w.second.levels)) vs us
          → DifferencesAre w.first.vars q xs ys vs us
      units xs ys e f d = rw (e, f) d

pub pair_met : PairIsMet
pair_met k i n m fs gs one other w vs us h small = rows-met k i n m fs gs one other w vs us h small

pub subscripts_met : SubscriptsAreMet
subscripts_met k i n m fs gs one other w vs us a b h x y e small = cells-met k i n m fs gs one other w vs us h a b x y e small

pub orders_met : OrdersAreMet
orders_met k i n m fs gs one other w vs us carrier shared h = (old-met k i n m fs gs one other w vs us h carrier shared, new-met k i n m fs gs one other w vs us h carrier shared)
