-- A point that meets the rows of a system meets each row that an elimination leaves.
use Rattle.std.proofs.Common.{◌≡◌, ℕ, Bool, true, false, cond, not, ◌&&◌, List, [], ◌∷◌, ◌++◌, map, ℤ, pos, negsuc, ◌+ℤ◌, ◌*ℤ◌, ◌≤ℤ◌, ◌<ℤ◌, ◌⊎◌, inl, inr, arith, refl, ap, sym, ◌∙◌, subst, fold, ◌<◌}
use Rattle.std.specs.Prelude.{unsigned_abs, int_div, int_lt, filter, slice_get, Option, Some, None, Ok, Err, nat_le}
use Rattle.std.specs.Int.{◌∣◌}
use Rattle.std.specs.Ordering.{int_eq}
use Rattle.std.specs.List.{AllByRecursion, position_or_len}
use Rattle.std.proofs.lemmas.Int.{ints}
use Rattle.std.proofs.lemmas.Bool.{cond_both, and_parts, leb-false, and_cases, not-false}
use Rattle.std.proofs.lemmas.Bool.Decides.{Decides-int_eq}
use lib.IntN.{*ℤ-zero}
use lib.Pointwise.{pointwise}
use Rattle.int_rows.specs.Gcd.{gcd, gcd_of}
use Rattle.int_rows.specs.Rows.{dot, value, Holds, MeetsRow, Meets, coef_at, numbers}
use Rattle.int_rows.specs.Elimination.{combined, combination, Made, stays, joined, canceled, reduced, outcome, holds_not, is_above, is_below, is_equality_with, substituted, paired, made_with, made, is_alike, tightest, absorbed, merged, elimination}
use Rattle.int_rows.specs.declared.row.Row.{Row}
use Rattle.int_rows.specs.declared.row.Aff.{Aff}
use Rattle.int_rows.specs.declared.row.Excess.TheVariants.{Large, Many}
use Rattle.chill_base.proofs.Ring.{expand, times_swap, not_negative_product, not_negative_from_product, zero_from_product, divided_step, sum_times, times_assoc}
use Rattle.chill_base.proofs.Each.{each-append, each-both, each-parts, each-remove, each-filter, each-get, each-map, each-flat_map, each-none, found-passes}
use Rattle.int_rows.proofs.GcdLaws.{divides_out, gcd_of-divides}

-- ---- sums of products
pub dot-combined : (m : ℤ) (xs : List ℤ) (n : ℤ) (ys : List ℤ) (p : List ℤ) → dot (combined m xs n ys) p ≡ m *ℤ dot xs p +ℤ n *ℤ dot ys p
dot-combined m [] n [] p = omega (arith, ints)
dot-combined m [] n (y ∷ ys) [] = omega (arith, ints)
dot-combined m [] n (y ∷ ys) (a ∷ p) = rw (dot-combined m [] n ys p) (simp expand (omega (arith, ints)))
dot-combined m (x ∷ xs) n [] [] = omega (arith, ints)
dot-combined m (x ∷ xs) n [] (a ∷ p) = rw (dot-combined m xs n [] p) (simp expand (omega (arith, ints)))
dot-combined m (x ∷ xs) n (y ∷ ys) [] = omega (arith, ints)
dot-combined m (x ∷ xs) n (y ∷ ys) (a ∷ p) = rw (dot-combined m xs n ys p) (simp expand (omega (arith, ints)))

pub dot-divided : (g : ℕ) (cs : List ℤ) (p : List ℤ) → AllByRecursion (λ z. g ∣ unsigned_abs z) cs → dot (map (λ z. int_div z (pos g)) cs) p *ℤ pos g ≡ dot cs p
dot-divided g [] p h = omega (arith, ints)
dot-divided g (c ∷ cs) [] h = omega (arith, ints)
dot-divided g (c ∷ cs) (a ∷ p) h =
    divided_step (int_div c (pos g)) (pos g) a _ ∙ (λ i. divides_out c g h.0 i *ℤ a +ℤ dot-divided g cs p h.1 i)

-- ---- what one row asks
-- a combination with m >= 0, where the second row is an equality or n >= 0
Holds-combined : (e h : Bool) (m n u v : ℤ) → pos 0 ≤ℤ m → (h ≡ true) ⊎ ((e ≡ false) × (pos 0 ≤ℤ n)) → Holds e u → Holds h v → Holds e (m *ℤ u +ℤ n *ℤ v)
Holds-combined true true m n u v p q a b = rw (a, b, *ℤ-zero m, *ℤ-zero n) refl
Holds-combined true false m n u v p q a b = elim q [ inl x ↦ absurd cc | inr x ↦ absurd (let y = x.0 in cc) ]
Holds-combined false true m n u v p q a b = rw (b, *ℤ-zero n) (let k = not_negative_product m u p a in omega (arith, ints))
Holds-combined false false m n u v p q a b =
    elim q [
      | inl x ↦ absurd cc
      | inr x ↦ let k = not_negative_product m u p a in let l = not_negative_product n v x.1 b in omega (arith, ints)
    ]

Holds-divided : (e : Bool) (g v : ℤ) → pos 0 <ℤ g → Holds e (v *ℤ g) → Holds e v
Holds-divided true g v p h = zero_from_product g v p h
Holds-divided false g v p h = not_negative_from_product g v p h

-- how a row comes about, from rows that p meets
abbrev pub IsSound : ℤ → List ℤ → Made → Type 0
IsSound d p (stays r) = MeetsRow d p r
IsSound d p (joined m r n s) = MeetsRow d p r × MeetsRow d p s × (pos 0 ≤ℤ m) × ((s.equal ≡ true) ⊎ ((r.equal ≡ false) × (pos 0 ≤ℤ n)))

pub value-combined : (d : ℤ) (p : List ℤ) (m : ℤ) (f : Aff) (n : ℤ) (h : Aff) → dot (combined m f.coefs n h.coefs) p +ℤ d *ℤ (m *ℤ f.constant +ℤ n *ℤ h.constant) ≡ m *ℤ value d p f +ℤ n *ℤ value d p h
value-combined d p m f n h =
    rw (dot-combined m f.coefs n h.coefs p) (simp expand (omega (arith, ints, times_swap d m f.constant, times_swap d n h.constant)))

pub value-divided : (d : ℤ) (p : List ℤ) (g : ℕ) (f : Aff) → AllByRecursion (λ z. g ∣ unsigned_abs z) (f.coefs ++ f.constant ∷ []) → (dot (map (λ z. int_div z (pos g)) f.coefs) p +ℤ d *ℤ int_div f.constant (pos g)) *ℤ pos g ≡ value d p f
value-divided d p g f h =
    let parts = each-parts (λ z. g ∣ unsigned_abs z) f.coefs (f.constant ∷ []) h in
    sum_times _ _ (pos g) ∙ (λ i. dot-divided g f.coefs p parts.0 i +ℤ (times_assoc d (int_div f.constant (pos g)) (pos g) ∙ ap (λ k. d *ℤ k) (divides_out f.constant g parts.1.0)) i)

pub reduced-meets : (d : ℤ) (p : List ℤ) (r : Row) → MeetsRow d p r → MeetsRow d p (reduced r)
unfolding reduced
reduced-meets d p r h =
    let g = gcd_of (numbers r.form) in
    cond_both (nat_le g 0) _ _ (MeetsRow d p) (λ e. h)
    (λ e.
    let above : pos 0 <ℤ pos g = (let k : 0 < g = leb-false g 0 e in omega (arith, ints)) in
    Holds-divided r.equal (pos g) _ above (subst (Holds r.equal) (sym (value-divided d p g r.form (gcd_of-divides (numbers r.form)))) h))

pub outcome-meets : (d : ℤ) (p : List ℤ) (s : Made) → IsSound d p s → MeetsRow d p (outcome s)
unfolding outcome
outcome-meets d p (stays r) h = h
outcome-meets d p (joined m r n s) h =
    reduced-meets d p (record { equal = r.equal; form = combination m r.form n s.form }) (subst (Holds r.equal) (sym (value-combined d p m r.form n s.form)) (Holds-combined r.equal s.equal m n _ _ h.2 h.3 h.0 h.1))

-- ---- rules 1 and 2
pub int_eq-true : (a b : ℤ) → int_eq a b ≡ true → a ≡ b
int_eq-true a b e = (Decides-int_eq a b).0 e

quotient_not_negative : (a : ℤ) (g : ℕ) → pos 0 ≤ℤ a → pos 0 ≤ℤ int_div a (pos g)
quotient_not_negative (pos a) g h = omega (arith, ints)
quotient_not_negative (negsuc a) g h = absurd (omega (arith, ints))

pub canceled-sound : (d : ℤ) (p : List ℤ) (x : ℕ) (r s : Row) → MeetsRow d p r → MeetsRow d p s → (s.equal ≡ true) ⊎ ((r.equal ≡ false) × (pos 0 <ℤ coef_at x r) × (coef_at x s <ℤ pos 0)) → IsSound d p (canceled x r s)
unfolding canceled
canceled-sound d p x r s h k q = (
  h,
  k,
  quotient_not_negative (pos (unsigned_abs (coef_at x s))) _ (omega (arith, ints)),
  elim q [
    | inl e ↦ inl e
    | inr e ↦ inr (
      e.0,
      cond_both (int_lt (coef_at x s) (pos 0)) _ _ (λ z. pos 0 ≤ℤ int_div z (pos (gcd (unsigned_abs (coef_at x r)) (unsigned_abs (coef_at x s)))))
          (λ t. quotient_not_negative (coef_at x r) _ (omega (arith, ints)))
          (λ t. absurd (grind (arith, ints))),
    )
  ],
)

pub inequality-above : (x : ℕ) (r : Row) → is_equality_with x r ≡ false → is_above x r ≡ true → r.equal ≡ false
inequality-above x r e a =
    elim (and_cases r.equal (not (holds_not x r)) e) [
      | inl n ↦ n
      | inr n ↦ absurd (let z : coef_at x r ≡ pos 0 = int_eq-true (coef_at x r) (pos 0) (not-false _ n) in omega (arith, ints))
    ]

paired-sound : (d : ℤ) (p : List ℤ) (x : ℕ) (rows : List Row) → Meets d p rows → AllByRecursion (λ r. is_equality_with x r ≡ false) rows → AllByRecursion (IsSound d p) (paired x rows)
unfolding paired
paired-sound d p x rows h none =
    let M : Row → Type 0 = MeetsRow d p in
    let below = each-filter M (is_below x) rows h in
    let above = each-filter (λ r. M r × (is_equality_with x r ≡ false)) (is_above x) rows (each-both M (λ r. is_equality_with x r ≡ false) rows h none) in
    each-append (IsSound d p) (map stays (filter (holds_not x) rows)) _
    (each-map (λ r. M r × (holds_not x r ≡ true)) (IsSound d p) stays (λ r w. w.0) _ (each-filter M (holds_not x) rows h))
    (each-flat_map _ (IsSound d p) _
    (λ r w. each-map _ (IsSound d p) (canceled x r)
    (λ s v. canceled-sound d p x r s w.0.0 v.0 (inr (inequality-above x r w.0.1 w.1, (let a = w.1 in omega (arith, ints)), (let b = v.1 in omega (arith, ints))))) _ below) _ above)

substituted-sound : (d : ℤ) (p : List ℤ) (x : ℕ) (e : Row) → MeetsRow d p e → e.equal ≡ true → (r : Row) → MeetsRow d p r → IsSound d p (substituted x e r)
substituted-sound d p x e h q r k = cond_both (holds_not x r) (stays r) (canceled x r e) (IsSound d p) (λ _. k) (λ _. canceled-sound d p x r e k h (inl q))

made_with-sound : (d : ℤ) (p : List ℤ) (x : ℕ) (rows : List Row) → Meets d p rows → (i : ℕ) (o : Option Row) → i ≡ position_or_len (is_equality_with x) rows → slice_get rows i ≡ o → AllByRecursion (IsSound d p) (made_with x rows i o)
made_with-sound d p x rows h i (Some e) at is =
    let M : Row → Type 0 = MeetsRow d p in
    each-map M (IsSound d p) (substituted x e)
    (substituted-sound d p x e (each-get M rows i e h is) ((and_parts e.equal _ (found-passes (is_equality_with x) rows e (subst (λ k. slice_get rows k ≡ Some e) at is))).0)) _ (each-remove M rows i h)
made_with-sound d p x rows h i None at is =
    paired-sound d p x rows h (each-none (is_equality_with x) rows (subst (λ k. slice_get rows k ≡ None) at is))

pub made-sound : (d : ℤ) (p : List ℤ) (x : ℕ) (rows : List Row) → Meets d p rows → AllByRecursion (IsSound d p) (made x rows)
unfolding made
made-sound d p x rows h = made_with-sound d p x rows h _ _ refl refl

-- ---- rule 4
pub same_ints-true : (xs ys : List ℤ) → pointwise int_eq xs ys ≡ true → xs ≡ ys
same_ints-true [] [] e = refl
same_ints-true [] (y ∷ ys) e = absurd cc
same_ints-true (x ∷ xs) [] e = absurd cc
same_ints-true (x ∷ xs) (y ∷ ys) e =
    let parts = and_parts (int_eq x y) (pointwise int_eq xs ys) e in
    λ i. int_eq-true x y parts.0 i ∷ same_ints-true xs ys parts.1 i

same_kind : (a b c : Bool) → cond a (b && c) (not b) ≡ true → a ≡ b
same_kind true b c e = sym (and_parts b c e).0
same_kind false true c e = absurd cc
same_kind false false c e = refl

tightest-meets : (d : ℤ) (p : List ℤ) (r s : Row) → is_alike r s ≡ true → MeetsRow d p r → MeetsRow d p s → MeetsRow d p (tightest r s)
tightest-meets d p r s e h k =
    let parts = and_parts _ _ e in
    let kind : r.equal ≡ s.equal = same_kind r.equal s.equal _ parts.0 in
    let form : r.form.coefs ≡ s.form.coefs = same_ints-true _ _ parts.1 in
    cond_both (int_lt s.form.constant r.form.constant) s.form.constant r.form.constant (λ c. Holds r.equal (dot r.form.coefs p +ℤ d *ℤ c))
    (λ _. rw (kind, form) k) (λ _. h)

absorbed-meets : (d : ℤ) (p : List ℤ) (rows : List Row) (s : Row) → Meets d p rows → MeetsRow d p s → Meets d p (absorbed rows s)
absorbed-meets d p [] s h k = (k, tt)
absorbed-meets d p (r ∷ rows) s h k =
    cond_both (is_alike r s) (tightest r s ∷ rows) (r ∷ absorbed rows s) (Meets d p)
    (λ e. (tightest-meets d p r s e h.0 k, h.1)) (λ _. (h.0, absorbed-meets d p rows s h.1 k))

merge-meets : (d : ℤ) (p : List ℤ) (acc rows : List Row) → Meets d p acc → Meets d p rows → Meets d p (fold absorbed acc rows)
merge-meets d p acc [] h k = h
merge-meets d p acc (r ∷ rows) h k = merge-meets d p (absorbed acc r) rows (absorbed-meets d p acc r h k.0) k.1

pub merged-meets : (d : ℤ) (p : List ℤ) (rows : List Row) → Meets d p rows → Meets d p (merged rows)
unfolding merged
merged-meets d p rows h = merge-meets d p [] rows tt h

-- ---- the law
ok_cases : (a b : Bool) (left l : List Row) (x : ℕ) → cond a (cond b (Ok left) (Err (Many x))) (Err (Large x)) ≡ Ok l → (a ≡ true) × (b ≡ true) × (left ≡ l)
ok_cases true true left l x e = (refl, refl, cc)
ok_cases true false left l x e = absurd cc
ok_cases false b left l x e = absurd cc

-- what an elimination that passes no limit leaves
pub left-is : (x : ℕ) (rows left : List Row) → elimination x rows ≡ Ok left → merged (map outcome (made x rows)) ≡ left
unfolding elimination
left-is x rows left e = (ok_cases _ _ (merged (map outcome (made x rows))) left x e).2

-- each point of a system, with the constants taken d times, meets all rows that the elimination of a variable leaves
pub elimination_keeps_points : (d : ℤ) (p : List ℤ) (x : ℕ) (rows left : List Row) → elimination x rows ≡ Ok left → Meets d p rows → Meets d p left
elimination_keeps_points d p x rows left e h =
    subst (Meets d p) (left-is x rows left e)
    (merged-meets d p _ (each-map (IsSound d p) (MeetsRow d p) outcome (outcome-meets d p) (made x rows) (made-sound d p x rows h)))
