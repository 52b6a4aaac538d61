-- Rows hold exactly between the bounds that they give.
use Rattle.std.proofs.Common.{◌≡◌, inl, inr, ℕ, zero, suc, ◌≤◌, ◌^◌, List, [], ◌∷◌, ◌++◌, map, length, drop, refl, sym, ◌∙◌, ap, subst, arith, ℤ, pos, negsuc, ◌+ℤ◌, ◌-ℤ◌, ◌*ℤ◌, neg_ℤ, ◌≤ℤ◌, ◌<ℤ◌, unsigned_abs, Bool, true, false, cond, slice_set, tests}
use Rattle.std.specs.Prelude.{nat_le, ◌&&◌, ◌||◌}
use Rattle.std.specs.Ordering.{int_eq}
use Rattle.std.specs.Int.{int_div_euclid, w128, saturate_signed}
use Rattle.std.specs.Int.Signed.{lt_z}
use Rattle.std.specs.List.{list_all, AllByRecursion, fold}
use Rattle.std.proofs.lemmas.Int.{ints}
use Rattle.std.proofs.lemmas.Bool.{and_parts, and_from, cases_Bool}
use Rattle.std.proofs.lemmas.Bool.Decides.{Decides-int_eq, nat_tests}
use Rattle.chill_base.proofs.Ring.{neg_times}
use Rattle.int_rows.specs.Rows.{dot, Holds}
use Rattle.nest_tree.specs.Loops.{Levels}
use Rattle.nest_tree.specs.Terms.{Input}
use Rattle.nest_laws.proofs.Direct.{row-lower, lower-row, row-upper, upper-row}
use Rattle.scan_forms.specs.declared.affine.Affine.{Affine}
use Rattle.scan_forms.specs.declared.bounds.Bound.{Bound}
use Rattle.scan_forms.specs.declared.bounds.Bounds.{Bounds}
use Rattle.scan_forms.specs.declared.claim.Claim.{Claim}
use Rattle.scan_forms.specs.declared.reads.Read.{Read}
use Rattle.scan_forms.specs.Numbers.{number_at, is_zero, are_zero, same_numbers, opposite}
use Rattle.scan_forms.specs.Forms.{same_form, negated, without_level}
use Rattle.scan_forms.specs.Bounds.{same_bound, has_bound, bound_of, with_bound, rising, falling, with_claim}
use Rattle.scanning_laws.specs.Valued.{values_from, only_where, founds_from, befores_from}
use Rattle.scanning_laws.proofs.Valued.{zero_is, dot-nothing, dot-where, values-same}
use Rattle.printed_laws.specs.Printed.{CanBeRead}
use Rattle.printed_laws.specs.Laws.{worth, low_value, high_value}
use Rattle.printed_laws.specs.Loops.{IsBound, low_of, high_of}
use Rattle.printed_laws.specs.Between.{is_small, IsRow, AreBounds, IsBetween, HoldsWith, RowsHoldBetweenBounds}

-- ---- opposites of small numbers are exact
small_within : (n : ℕ) → nat_le n (2 ^ 126) ≡ true → n ≤ 2 ^ 126
small_within n h = grind (arith, nat_tests, h)

unsaturated : (z : ℤ) → unsigned_abs z ≤ 2 ^ 126 → saturate_signed w128 z ≡ z
unsaturated (pos n) h = ap pos (omega (arith, h))
unsaturated (negsuc n) h = ap negsuc (omega (arith, h))

pub opposite_is : (z : ℤ) → is_small z ≡ true → opposite z ≡ neg_ℤ z
opposite_is z h =
    let l = small_within (unsigned_abs z) h in
    let e : pos 0 -ℤ z ≡ neg_ℤ z = omega (arith, ints) in
    ap (saturate_signed w128) e ∙ unsaturated (neg_ℤ z) (same z l)
  where
    same : (z : ℤ) → unsigned_abs z ≤ 2 ^ 126 → unsigned_abs (neg_ℤ z) ≤ 2 ^ 126
    same z l = grind (arith, ints, l)

dot-opposite : (zs p : List ℤ) → list_all is_small zs ≡ true → dot (map opposite zs) p ≡ neg_ℤ (dot zs p)
dot-opposite [] p h = refl
dot-opposite (z ∷ zs) [] h = refl
dot-opposite (z ∷ zs) (x ∷ p) h =
    let a = and_parts (is_small z) (list_all is_small zs) h in
    ap (λ (y : ℤ). y *ℤ x +ℤ dot (map opposite zs) p) (opposite_is z a.0) ∙ ap (λ (y : ℤ). neg_ℤ z *ℤ x +ℤ y) (dot-opposite zs p a.1)
    ∙ ap (λ (y : ℤ). y +ℤ neg_ℤ (dot zs p)) (neg_times z x) ∙ together (z *ℤ x) (dot zs p)
  where
    together : (a b : ℤ) → neg_ℤ a +ℤ neg_ℤ b ≡ neg_ℤ (a +ℤ b)
    together a b = omega (arith, ints)

zero_opposite : (z : ℤ) → is_zero z ≡ true → is_zero (opposite z) ≡ true
zero_opposite z h = ap (λ (y : ℤ). is_zero (opposite y)) (zero_is z h)

zeros-opposite : (zs : List ℤ) → are_zero zs ≡ true → are_zero (map opposite zs) ≡ true
zeros-opposite [] h = refl
zeros-opposite (z ∷ zs) h = let a = and_parts (is_zero z) (are_zero zs) h in and_from (is_zero (opposite z)) (are_zero (map opposite zs)) (zero_opposite z a.0) (zeros-opposite zs a.1)

drop-map : (f : ℤ → ℤ) (n : ℕ) (zs : List ℤ) → drop n (map f zs) ≡ map f (drop n zs)
drop-map f zero zs = refl
drop-map f (suc n) [] = refl
drop-map f (suc n) (z ∷ zs) = drop-map f n zs

where-opposite : (bs : List Bool) (zs : List ℤ) → only_where bs zs ≡ true → only_where bs (map opposite zs) ≡ true
where-opposite [] zs h = zeros-opposite zs h
where-opposite (b ∷ bs) [] h = refl
where-opposite (true ∷ bs) (z ∷ zs) h = where-opposite bs zs (and_parts true (only_where bs zs) h).1
where-opposite (false ∷ bs) (z ∷ zs) h =
    let a = and_parts (false || is_zero z) (only_where bs zs) h in
    and_from (false || is_zero (opposite z)) (only_where bs (map opposite zs)) (zero_opposite z a.0) (where-opposite bs zs a.1)

-- ---- a level taken out of a form
small-set : (zs : List ℤ) (q : ℕ) → list_all is_small zs ≡ true → list_all is_small (slice_set zs q (pos 0)) ≡ true
small-set [] q h = refl
small-set (z ∷ zs) zero h = (and_parts (is_small z) (list_all is_small zs) h).1
small-set (z ∷ zs) (suc q) h = let a = and_parts (is_small z) (list_all is_small zs) h in and_from (is_small z) (list_all is_small (slice_set zs q (pos 0))) a.0 (small-set zs q a.1)

zeros-set : (zs : List ℤ) (q : ℕ) → are_zero (drop (suc q) zs) ≡ true → are_zero (drop q (slice_set zs q (pos 0))) ≡ true
zeros-set [] zero h = refl
zeros-set [] (suc q) h = refl
zeros-set (z ∷ zs) zero h = h
zeros-set (z ∷ zs) (suc q) h = zeros-set zs q h

dot-level : (zs : List ℤ) (e : Levels) (v : ℤ) → dot zs (e ++ v ∷ []) ≡ number_at (length e) zs *ℤ v +ℤ dot (slice_set zs (length e) (pos 0)) e
dot-level [] e v = nothing v
  where
    nothing : (v : ℤ) → pos 0 ≡ pos 0 *ℤ v +ℤ pos 0
    nothing v = omega (arith, ints)
dot-level (z ∷ zs) [] v = ap (λ (y : ℤ). z *ℤ v +ℤ y) (dot-nothing zs)
dot-level (z ∷ zs) (w ∷ e) v = ap (λ (y : ℤ). z *ℤ w +ℤ y) (dot-level zs e v) ∙ swapped (z *ℤ w) (number_at (length e) zs *ℤ v) (dot (slice_set zs (length e) (pos 0)) e)
  where
    swapped : (a b c : ℤ) → a +ℤ (b +ℤ c) ≡ b +ℤ (a +ℤ c)
    swapped a b c = omega (arith, ints)

-- ---- equal forms have one value
dot-zeros : (zs p : List ℤ) → are_zero zs ≡ true → dot zs p ≡ pos 0
dot-zeros [] p h = refl
dot-zeros (z ∷ zs) [] h = refl
dot-zeros (z ∷ zs) (x ∷ p) h =
    let a = and_parts (is_zero z) (are_zero zs) h in
    ap (λ (y : ℤ). y *ℤ x +ℤ dot zs p) (zero_is z a.0) ∙ ap (λ (y : ℤ). pos 0 *ℤ x +ℤ y) (dot-zeros zs p a.1) ∙ nothing x
  where
    nothing : (x : ℤ) → pos 0 *ℤ x +ℤ pos 0 ≡ pos 0
    nothing x = omega (arith, ints)

dot-equal : (xs ys p : List ℤ) → same_numbers xs ys ≡ true → dot xs p ≡ dot ys p
dot-equal [] ys p h = sym (dot-zeros ys p h)
dot-equal (x ∷ xs) [] p h = dot-zeros (x ∷ xs) p h
dot-equal (x ∷ xs) (y ∷ ys) [] h = refl
dot-equal (x ∷ xs) (y ∷ ys) (v ∷ p) h =
    let a = and_parts (int_eq x y) (same_numbers xs ys) h in
    ap (λ (z : ℤ). z *ℤ v +ℤ dot xs p) ((Decides-int_eq x y).0 a.0) ∙ ap (λ (z : ℤ). y *ℤ v +ℤ z) (dot-equal xs ys p a.1)

-- ---- lists of bounds
all-end : {A : Type 0} (P : A → Type 0) (xs : List A) (x : A) → AllByRecursion P xs → P x → AllByRecursion P (xs ++ x ∷ [])
all-end P [] x h p = (p, tt)
all-end P (y ∷ xs) x h p = (h.0, all-end P xs x h.1 p)

end-all : {A : Type 0} (P : A → Type 0) (xs : List A) (x : A) → AllByRecursion P (xs ++ x ∷ []) → AllByRecursion P xs × P x
end-all P [] x h = (tt, h.0)
end-all P (y ∷ xs) x h = let r = end-all P xs x h.1 in ((h.0, r.0), r.1)

has-all : (P : Bound → Type 0) (x : Bound) → ((y : Bound) → same_bound y x ≡ true → P y → P x) → (bs : List Bound) → has_bound bs x ≡ true → AllByRecursion P bs → P x
has-all P x s [] h a = cc
has-all P x s (b ∷ bs) h a = elim (cases_Bool (same_bound b x)) [
  | inl t ↦ s b t a.0
  | inr f ↦ has-all P x s bs (ap (λ (t : Bool). t || has_bound bs x) (sym f) ∙ h) a.1
]

pub with-all : (P : Bound → Type 0) (f : Affine) (d : ℤ) (bs : List Bound) → AllByRecursion P bs → P (bound_of f d) → AllByRecursion P (with_bound f d bs)
unfolding with_bound
with-all P f d bs h p = by_new (has_bound bs (bound_of f d))
  where
    by_new : (t : Bool) → AllByRecursion P (cond t bs (bs ++ bound_of f d ∷ []))
    by_new true = h
    by_new false = all-end P bs (bound_of f d) h p

pub all-with : (P : Bound → Type 0) (f : Affine) (d : ℤ) → ((y : Bound) → same_bound y (bound_of f d) ≡ true → P y → P (bound_of f d)) → (bs : List Bound) → AllByRecursion P (with_bound f d bs) → AllByRecursion P bs × P (bound_of f d)
unfolding with_bound
all-with P f d s bs = by_new (has_bound bs (bound_of f d)) (λ e. e)
  where
    by_new : (t : Bool) → (t ≡ true → has_bound bs (bound_of f d) ≡ true) → AllByRecursion P (cond t bs (bs ++ bound_of f d ∷ [])) → AllByRecursion P bs × P (bound_of f d)
    by_new true e a = (a, has-all P (bound_of f d) s bs (e refl) a)
    by_new false e a = end-all P bs (bound_of f d) a

-- ---- a row and its bound
pub above_zero : (d : ℕ) → lt_z (pos 0) (pos (suc d)) ≡ true
above_zero d = grind (arith, tests)

low-row : (d : ℕ) (v r : ℤ) → (pos 0 ≤ℤ ((pos (suc d) *ℤ v) +ℤ r) → low_value (neg_ℤ r) (pos (suc d)) ≤ℤ v) × (low_value (neg_ℤ r) (pos (suc d)) ≤ℤ v → pos 0 ≤ℤ ((pos (suc d) *ℤ v) +ℤ r))
low-row d v r =
    let e : neg_ℤ (neg_ℤ r) ≡ r = omega (arith, ints) in
    let p : low_value (neg_ℤ r) (pos (suc d)) ≡ neg_ℤ (int_div_euclid r (pos (suc d))) = ap (λ (x : ℤ). neg_ℤ (int_div_euclid x (pos (suc d)))) e in
    (λ h. subst (λ (x : ℤ). x ≤ℤ v) (sym p) (row-lower d v r h), λ h. lower-row d v r (subst (λ (x : ℤ). x ≤ℤ v) p h))

high-row : (d : ℕ) (v r : ℤ) → (pos 0 ≤ℤ ((negsuc d *ℤ v) +ℤ r) → v <ℤ high_value r (pos (suc d))) × (v <ℤ high_value r (pos (suc d)) → pos 0 ≤ℤ ((negsuc d *ℤ v) +ℤ r))
high-row d v r = (row-upper d v r, upper-row d v r)

turned : (d : ℕ) (v : ℤ) → negsuc d *ℤ v ≡ neg_ℤ (pos (suc d) *ℤ v)
turned d v = neg_times (pos (suc d)) v

-- an equality, as two rows of its two signs
rises : (d : ℕ) (v r : ℤ) → ((pos (suc d) *ℤ v) +ℤ r ≡ pos 0 → (pos 0 ≤ℤ ((pos (suc d) *ℤ v) +ℤ r)) × (pos 0 ≤ℤ ((negsuc d *ℤ v) +ℤ neg_ℤ r)))
    × (pos 0 ≤ℤ ((pos (suc d) *ℤ v) +ℤ r) → pos 0 ≤ℤ ((negsuc d *ℤ v) +ℤ neg_ℤ r) → (pos (suc d) *ℤ v) +ℤ r ≡ pos 0)
rises d v r =
    let o = turned d v in
    (λ h. (omega (arith, ints, h), (let x = h in omega (arith, ints, x, o))), λ a b. omega (arith, ints, a, b, o))

falls : (d : ℕ) (v r : ℤ) → ((negsuc d *ℤ v) +ℤ r ≡ pos 0 → (pos 0 ≤ℤ ((pos (suc d) *ℤ v) +ℤ neg_ℤ r)) × (pos 0 ≤ℤ ((negsuc d *ℤ v) +ℤ r)))
    × (pos 0 ≤ℤ ((pos (suc d) *ℤ v) +ℤ neg_ℤ r) → pos 0 ≤ℤ ((negsuc d *ℤ v) +ℤ r) → (negsuc d *ℤ v) +ℤ r ≡ pos 0)
falls d v r =
    let o = turned d v in
    (λ h. ((let x = h in omega (arith, ints, x, o)), omega (arith, ints, h)), λ a b. omega (arith, ints, a, b, o))

module _ (i : Input) (table : List Read) (e : Levels) where
  abbrev at : Affine → ℤ
  at f = worth i table e f

  same_worth : (f g : Affine) → same_form f g ≡ true → at f ≡ at g
  same_worth f g h =
      let a = and_parts (int_eq f.constant g.constant && same_numbers f.params g.params && same_numbers f.levels g.levels) (same_numbers f.reads g.reads) h in
      let b = and_parts (int_eq f.constant g.constant && same_numbers f.params g.params) (same_numbers f.levels g.levels) a.0 in
      let c = and_parts (int_eq f.constant g.constant) (same_numbers f.params g.params) b.0 in
      let rs = values_from i e [] table in
      ap (λ (x : ℤ). x +ℤ (dot f.levels e +ℤ (dot f.reads rs +ℤ f.constant))) (dot-equal f.params g.params i.params c.1)
      ∙ ap (λ (x : ℤ). dot g.params i.params +ℤ (x +ℤ (dot f.reads rs +ℤ f.constant))) (dot-equal f.levels g.levels e b.1)
      ∙ ap (λ (x : ℤ). dot g.params i.params +ℤ (dot g.levels e +ℤ (x +ℤ f.constant))) (dot-equal f.reads g.reads rs a.1)
      ∙ ap (λ (x : ℤ). dot g.params i.params +ℤ (dot g.levels e +ℤ (dot g.reads rs +ℤ x))) ((Decides-int_eq f.constant g.constant).0 c.0)

  same_low : (a b : Bound) → same_bound a b ≡ true → low_of i table e a ≡ low_of i table e b
  same_low a b h =
      let p = and_parts (int_eq a.divisor b.divisor) (same_form a.form b.form) h in
      ap (λ (x : ℤ). low_value x a.divisor) (same_worth a.form b.form p.1) ∙ ap (low_value (at b.form)) ((Decides-int_eq a.divisor b.divisor).0 p.0)

  same_high : (a b : Bound) → same_bound a b ≡ true → high_of i table e a ≡ high_of i table e b
  same_high a b h =
      let p = and_parts (int_eq a.divisor b.divisor) (same_form a.form b.form) h in
      ap (λ (x : ℤ). high_value x a.divisor) (same_worth a.form b.form p.1) ∙ ap (high_value (at b.form)) ((Decides-int_eq a.divisor b.divisor).0 p.0)

  -- what a row adds to bounds: further bounds, between which a value is exactly where the row has it
  record Adds (old new : Bounds) (Row : ℤ → Type 0) : Type 0 where
    bounds : AreBounds i table e new
    back : (v : ℤ) → IsBetween i table e new v → IsBetween i table e old v × Row v
    forth : (v : ℤ) → IsBetween i table e old v → Row v → IsBetween i table e new v

  low_back : (f : Affine) (d v : ℤ) (bs : List Bound) → AllByRecursion (λ b. low_of i table e b ≤ℤ v) (with_bound f d bs) → AllByRecursion (λ b. low_of i table e b ≤ℤ v) bs × (low_of i table e (bound_of f d) ≤ℤ v)
  low_back f d v bs = all-with (λ b. low_of i table e b ≤ℤ v) f d (λ y s h. subst (λ (x : ℤ). x ≤ℤ v) (same_low y (bound_of f d) s) h) bs

  high_back : (f : Affine) (d v : ℤ) (bs : List Bound) → AllByRecursion (λ b. v <ℤ high_of i table e b) (with_bound f d bs) → AllByRecursion (λ b. v <ℤ high_of i table e b) bs × (v <ℤ high_of i table e (bound_of f d))
  high_back f d v bs = all-with (λ b. v <ℤ high_of i table e b) f d (λ y s h. subst (λ (x : ℤ). v <ℤ x) (same_high y (bound_of f d) s) h) bs

  module _ (f : Affine) (d : ℤ) (bs : Bounds) (Row : ℤ → Type 0) (old : AreBounds i table e bs) (is : IsBound i table e (bound_of f d)) where
    adds_lower : ((v : ℤ) → (Row v → low_of i table e (bound_of f d) ≤ℤ v) × (low_of i table e (bound_of f d) ≤ℤ v → Row v)) → Adds bs (record { lower = with_bound f d bs.lower; upper = bs.upper }) Row
    adds_lower r = record {
      bounds = record { lower = with-all (IsBound i table e) f d bs.lower old.lower is; upper = old.upper };
      back = λ v h. (let a = low_back f d v bs.lower h.above in (record { above = a.0; below = h.below }, (r v).1 a.1));
      forth = λ v h x. record { above = with-all (λ b. low_of i table e b ≤ℤ v) f d bs.lower h.above ((r v).0 x); below = h.below };
    }

    adds_upper : ((v : ℤ) → (Row v → v <ℤ high_of i table e (bound_of f d)) × (v <ℤ high_of i table e (bound_of f d) → Row v)) → Adds bs (record { lower = bs.lower; upper = with_bound f d bs.upper }) Row
    adds_upper r = record {
      bounds = record { lower = old.lower; upper = with-all (IsBound i table e) f d bs.upper old.upper is };
      back = λ v h. (let a = high_back f d v bs.upper h.below in (record { above = h.above; below = a.0 }, (r v).1 a.1));
      forth = λ v h x. record { above = h.above; below = with-all (λ b. v <ℤ high_of i table e b) f d bs.upper h.below ((r v).0 x) };
    }

    adds_both : ((v : ℤ) → (Row v → (low_of i table e (bound_of f d) ≤ℤ v) × (v <ℤ high_of i table e (bound_of f d))) × (low_of i table e (bound_of f d) ≤ℤ v → v <ℤ high_of i table e (bound_of f d) → Row v))
        → Adds bs (record { lower = with_bound f d bs.lower; upper = with_bound f d bs.upper }) Row
    adds_both r = record {
      bounds = record { lower = with-all (IsBound i table e) f d bs.lower old.lower is; upper = with-all (IsBound i table e) f d bs.upper old.upper is };
      back = λ v h. (let a = low_back f d v bs.lower h.above in let b = high_back f d v bs.upper h.below in (record { above = a.0; below = b.0 }, (r v).1 a.1 b.1));
      forth = λ v h x.
          (let y = (r v).0 x in
          record { above = with-all (λ b. low_of i table e b ≤ℤ v) f d bs.lower h.above y.0; below = with-all (λ b. v <ℤ high_of i table e b) f d bs.upper h.below y.1 });
    }

  -- ---- the form of a row without its level
  module _ (c : Claim) (w : IsRow i table e c) where
    abbrev q : ℕ
    q = suc (length e)

    abbrev rest : Affine
    rest = without_level q c.form

    smalls : (list_all is_small rest.params ≡ true) × (list_all is_small rest.levels ≡ true) × (list_all is_small rest.reads ≡ true) × (is_small rest.constant ≡ true)
    smalls =
        let f = c.form in
        let a = and_parts (list_all is_small f.params) (list_all is_small f.levels && (list_all is_small f.reads && is_small f.constant)) w.small in
        let b = and_parts (list_all is_small f.levels) (list_all is_small f.reads && is_small f.constant) a.1 in
        let g = and_parts (list_all is_small f.reads) (is_small f.constant) b.1 in
        (a.0, small-set f.levels (length e) b.0, g.0, g.1)

    row_value : (v : ℤ) → worth i table (e ++ v ∷ []) c.form ≡ (number_at (length e) c.form.levels *ℤ v) +ℤ at rest
    row_value v =
        let f = c.form in
        let ws = values_from i (e ++ v ∷ []) [] table in
        let rs = values_from i e [] table in
        moved (dot f.params i.params) (dot f.levels (e ++ v ∷ [])) (dot f.reads ws) f.constant (number_at (length e) f.levels *ℤ v) (dot rest.levels e) (dot f.reads rs)
        (dot-level f.levels e v) (dot-where (befores_from (length e) [] table) f.reads rs ws w.before (values-same i e v table [] [] [] tt))
      where
        moved : (p l r c z m s : ℤ) → l ≡ z +ℤ m → s ≡ r → p +ℤ (l +ℤ (r +ℤ c)) ≡ z +ℤ (p +ℤ (m +ℤ (s +ℤ c)))
        moved p l r c z m s g h = omega (arith, ints, g, h)

    opposite_value : at (negated rest) ≡ neg_ℤ (at rest)
    opposite_value =
        let s = smalls in
        let rs = values_from i e [] table in
        turned_all (dot rest.params i.params) (dot rest.levels e) (dot rest.reads rs) rest.constant _ _ _ _
        (dot-opposite rest.params i.params s.0) (dot-opposite rest.levels e s.1) (dot-opposite rest.reads rs s.2) (opposite_is rest.constant s.3)
      where
        turned_all : (p l r c p1 l1 r1 c1 : ℤ) → p1 ≡ neg_ℤ p → l1 ≡ neg_ℤ l → r1 ≡ neg_ℤ r → c1 ≡ neg_ℤ c → p1 +ℤ (l1 +ℤ (r1 +ℤ c1)) ≡ neg_ℤ (p +ℤ (l +ℤ (r +ℤ c)))
        turned_all p l r c p1 l1 r1 c1 a b d f = omega (arith, ints, a, b, d, f)

    rest_reads : CanBeRead i table e rest
    rest_reads = record { found = w.found; before = and_from (are_zero (drop (length e) rest.levels)) (only_where (befores_from (length e) [] table) rest.reads) (zeros-set c.form.levels (length e) w.levels) w.before }

    opposite_reads : CanBeRead i table e (negated rest)
    opposite_reads = record {
      found = where-opposite (founds_from i e [] [] table) rest.reads w.found;
      before = and_from (are_zero (drop (length e) (map opposite rest.levels))) (only_where (befores_from (length e) [] table) (map opposite rest.reads))
          (ap are_zero (drop-map opposite (length e) rest.levels) ∙ zeros-opposite (drop (length e) rest.levels) (zeros-set c.form.levels (length e) w.levels)) (where-opposite (befores_from (length e) [] table) rest.reads w.before);
    }

    abbrev RowAt : ℤ → Bool → ℤ → Type 0
    RowAt z equal v = Holds equal ((z *ℤ v) +ℤ at rest)

    rising_adds : (d : ℕ) (equal : Bool) (bs : Bounds) → AreBounds i table e bs
        → Adds bs (record { lower = with_bound (negated rest) (pos (suc d)) bs.lower; upper = cond equal (with_bound (negated rest) (pos (suc d)) bs.upper) bs.upper }) (RowAt (pos (suc d)) equal)
    rising_adds d equal bs old = by_kind equal
      where
        is : IsBound i table e (bound_of (negated rest) (pos (suc d)))
        is = record { readable = opposite_reads; positive = omega (arith, ints) }

        low_is : low_value (at (negated rest)) (pos (suc d)) ≡ low_value (neg_ℤ (at rest)) (pos (suc d))
        low_is = ap (λ (x : ℤ). low_value x (pos (suc d))) opposite_value

        high_is : high_value (at (negated rest)) (pos (suc d)) ≡ high_value (neg_ℤ (at rest)) (pos (suc d))
        high_is = ap (λ (x : ℤ). high_value x (pos (suc d))) opposite_value

        by_kind : (equal : Bool) → Adds bs (record { lower = with_bound (negated rest) (pos (suc d)) bs.lower; upper = cond equal (with_bound (negated rest) (pos (suc d)) bs.upper) bs.upper }) (RowAt (pos (suc d)) equal)
        by_kind false = adds_lower (negated rest) (pos (suc d)) bs (RowAt (pos (suc d)) false) old is (λ v.
            let r = low-row d v (at rest) in
            (λ h. subst (λ (x : ℤ). x ≤ℤ v) (sym low_is) (r.0 h), λ h. r.1 (subst (λ (x : ℤ). x ≤ℤ v) low_is h)))
        by_kind true = adds_both (negated rest) (pos (suc d)) bs (RowAt (pos (suc d)) true) old is (λ v.
            let l = low-row d v (at rest) in
            let u = high-row d v (neg_ℤ (at rest)) in
            let b = rises d v (at rest) in (
              λ h. (let y = b.0 h in (subst (λ (x : ℤ). x ≤ℤ v) (sym low_is) (l.0 y.0), subst (λ (x : ℤ). v <ℤ x) (sym high_is) (u.0 y.1))),
              λ h g. b.1 (l.1 (subst (λ (x : ℤ). x ≤ℤ v) low_is h)) (u.1 (subst (λ (x : ℤ). v <ℤ x) high_is g)),
            ))

    falling_adds : (d : ℕ) (equal : Bool) (bs : Bounds) → AreBounds i table e bs
        → Adds bs (record { lower = cond equal (with_bound rest (pos (suc d)) bs.lower) bs.lower; upper = with_bound rest (pos (suc d)) bs.upper }) (RowAt (negsuc d) equal)
    falling_adds d equal bs old = by_kind equal
      where
        is : IsBound i table e (bound_of rest (pos (suc d)))
        is = record { readable = rest_reads; positive = omega (arith, ints) }

        twice : neg_ℤ (neg_ℤ (at rest)) ≡ at rest
        twice = omega (arith, ints)

        by_kind : (equal : Bool) → Adds bs (record { lower = cond equal (with_bound rest (pos (suc d)) bs.lower) bs.lower; upper = with_bound rest (pos (suc d)) bs.upper }) (RowAt (negsuc d) equal)
        by_kind false = adds_upper rest (pos (suc d)) bs (RowAt (negsuc d) false) old is (λ v. high-row d v (at rest))
        by_kind true = adds_both rest (pos (suc d)) bs (RowAt (negsuc d) true) old is (λ v.
            let l = low-row d v (neg_ℤ (at rest)) in
            let u = high-row d v (at rest) in
            let b = falls d v (at rest) in
            let m = ap (λ (x : ℤ). low_value x (pos (suc d))) twice in (
              λ h. (let y = b.0 h in (subst (λ (x : ℤ). x ≤ℤ v) m (l.0 y.0), u.0 y.1)),
              λ h g. b.1 (l.1 (subst (λ (x : ℤ). x ≤ℤ v) (sym m) h)) (u.1 g),
            ))

    -- ---- by the sign of its level's number
    small_level : (zs : List ℤ) (n : ℕ) → list_all is_small zs ≡ true → is_small (number_at n zs) ≡ true
    small_level [] n h = refl
    small_level (z ∷ zs) zero h = (and_parts (is_small z) (list_all is_small zs) h).0
    small_level (z ∷ zs) (suc n) h = small_level zs n (and_parts (is_small z) (list_all is_small zs) h).1

    as_row : (z : ℤ) (v : ℤ) → number_at (length e) c.form.levels ≡ z → worth i table (e ++ v ∷ []) c.form ≡ (z *ℤ v) +ℤ at rest
    as_row z v h = row_value v ∙ ap (λ (x : ℤ). (x *ℤ v) +ℤ at rest) h

    named : (z : ℤ) (bs new : Bounds) → number_at (length e) c.form.levels ≡ z → (z ≡ pos 0 → ⊥) → Adds bs new (RowAt z c.equal) → Adds bs new (λ v. HoldsWith i table e v c)
    named z bs new h n a = record {
      bounds = a.bounds;
      back = λ v b. (let r = a.back v b in (r.0, λ k. subst (Holds c.equal) (sym (as_row z v h)) r.1));
      forth = λ v b k. a.forth v b (subst (Holds c.equal) (as_row z v h) (k (λ x. n (sym h ∙ x))));
    }

    claim_adds : (bs : Bounds) → AreBounds i table e bs → Adds bs (with_claim q bs c) (λ v. HoldsWith i table e v c)
    unfolding with_claim rising falling
    claim_adds bs old = by_number (number_at (length e) c.form.levels) refl
      where
        small_is : is_small (number_at (length e) c.form.levels) ≡ true
        small_is = small_level c.form.levels (length e) (and_parts (list_all is_small c.form.levels) (list_all is_small c.form.reads && is_small c.form.constant) (and_parts (list_all is_small c.form.params) (list_all is_small c.form.levels && (list_all is_small c.form.reads && is_small c.form.constant)) w.small).1).0

        by_number : (z : ℤ) → number_at (length e) c.form.levels ≡ z
            → Adds bs (cond (lt_z (pos 0) z) (rising q c z bs) (cond (lt_z z (pos 0)) (falling q c (opposite z) bs) bs)) (λ v. HoldsWith i table e v c)
        by_number (pos zero) h = record { bounds = old; back = λ v b. (b, λ k. absurd (k h)); forth = λ v b k. b }
        by_number (pos (suc d)) h =
            subst (λ (t : Bool). Adds bs (cond t (rising q c (pos (suc d)) bs) (cond (lt_z (pos (suc d)) (pos 0)) (falling q c (opposite (pos (suc d))) bs) bs)) (λ v. HoldsWith i table e v c)) (sym (above_zero d))
            (named (pos (suc d)) bs (rising q c (pos (suc d)) bs) h (λ x. omega (arith, ints, x)) (rising_adds d c.equal bs old))
        by_number (negsuc d) h =
            let o : opposite (negsuc d) ≡ pos (suc d) = opposite_is (negsuc d) (ap is_small (sym h) ∙ small_is) in
            subst (λ (x : ℤ). Adds bs (falling q c x bs) (λ v. HoldsWith i table e v c)) (sym o)
            (named (negsuc d) bs (falling q c (pos (suc d)) bs) h (λ x. omega (arith, ints, x)) (falling_adds d c.equal bs old))

  -- ---- all rows
  claims_add : (cs : List Claim) (bs : Bounds) → AllByRecursion (IsRow i table e) cs → AreBounds i table e bs
      → AreBounds i table e (fold (with_claim (suc (length e))) bs cs)
      × ((v : ℤ) → (IsBetween i table e (fold (with_claim (suc (length e))) bs cs) v → IsBetween i table e bs v × AllByRecursion (HoldsWith i table e v) cs)
      × (IsBetween i table e bs v → AllByRecursion (HoldsWith i table e v) cs → IsBetween i table e (fold (with_claim (suc (length e))) bs cs) v))
  claims_add [] bs all old = (old, λ v. (λ h. (h, tt), λ h k. h))
  claims_add (c ∷ cs) bs all old =
      let a = claim_adds c all.0 bs old in
      let r = claims_add cs (with_claim (suc (length e)) bs c) all.1 a.bounds in
      (r.0, λ v. (λ h. (let x = (r.1 v).0 h in let y = a.back v x.0 in (y.0, (y.1, x.1))), λ h k. (r.1 v).1 (a.forth v h k.0) k.1))

pub between : RowsHoldBetweenBounds
between i table e cs all =
    let r = claims_add i table e cs (record { lower = []; upper = [] }) all (record { lower = tt; upper = tt }) in
    (r.0, λ v. (λ h. ((r.1 v).0 h).1, λ h. (r.1 v).1 (record { above = tt; below = tt }) h))
