-- A point that meets what an elimination leaves gives a point that meets the system.
use Rattle.std.proofs.Common.{◌≡◌, ℕ, zero, suc, ◌<◌, ℤ, pos, negsuc, ◌+ℤ◌, ◌*ℤ◌, ◌-ℤ◌, neg_ℤ, ◌≤ℤ◌, ◌<ℤ◌, Bool, true, false, not, cond, ◌&&◌, List, [], ◌∷◌, map, length, get_or, set, ◌⊎◌, inl, inr, arith, refl, ap, sym, ◌∙◌, subst, fold}
use Rattle.std.specs.Prelude.{unsigned_abs, int_div, int_lt, nat_le, filter, flat_map, remove, slice_get, Option, Some, None, Ok}
use Rattle.std.specs.Int.{int_min, ◌∣◌}
use Rattle.std.specs.Ordering.{int_eq}
use Rattle.std.specs.List.{AllByRecursion, position_or_len}
use Rattle.std.proofs.lemmas.Int.{ints, clamps, by_lt_z}
use Rattle.std.proofs.lemmas.Bool.{cond_both, cases_Bool, and_parts, ltb-true, and_cases, not-false, not-true, true≢false}
use Rattle.std.proofs.lemmas.Bool.Decides.{Decides-int_eq}
use lib.IntN.{*ℤ_comm, *ℤ-zero, zero-*ℤ}
use Rattle.int_rows.specs.Gcd.{gcd, gcd_of}
use Rattle.int_rows.specs.Rows.{dot, value, Holds, MeetsRow, Meets, coef_at, numbers}
use Rattle.int_rows.specs.Elimination.{combination, Made, stays, canceled, reduced, outcome, holds_not, is_above, is_below, is_equality_with, substituted, paired, made_with, made, is_alike, is_same_kind, tightest, absorbed, merged, elimination}
use Rattle.int_rows.specs.declared.row.Row.{Row}
use Rattle.chill_base.proofs.Ring.{expand, times_swap, times_assoc, sum_times, not_negative_product}
use Rattle.int_rows.proofs.GcdLaws.{divides_out, gcd_is, gcd_of-divides, size-some}
use Rattle.int_rows.proofs.FirstLaw.{value-combined, value-divided, same_ints-true, int_eq-true, left-is, inequality-above}
use Rattle.chill_base.proofs.Each.{each-parts, each-weaker, each-filter, each-both, each-none, found-passes}
use Rattle.int_rows.proofs.Choose.{Bounds, between_all}

-- ---- where the point goes
dot-scaled : (k : ℤ) (cs p : List ℤ) → dot cs (map (λ z. k *ℤ z) p) ≡ k *ℤ dot cs p
dot-scaled k [] p = sym (*ℤ-zero k)
dot-scaled k (c ∷ cs) [] = sym (*ℤ-zero k)
dot-scaled k (c ∷ cs) (y ∷ p) = rw (dot-scaled k cs p) (simp expand (omega (arith, ints, times_swap c k y)))

pub dot-set : (cs p : List ℤ) (x : ℕ) (t : ℤ) → x < length p → dot cs (set p x t) ≡ dot cs p +ℤ get_or cs x (pos 0) *ℤ (t -ℤ get_or p x (pos 0))
dot-set [] p x t h = rw zero-*ℤ refl
dot-set (c ∷ cs) [] x t h = absurd (omega arith)
dot-set (c ∷ cs) (y ∷ p) zero t h = simp expand (omega (arith, ints))
dot-set (c ∷ cs) (y ∷ p) (suc x) t h = rw (dot-set cs p x t (omega arith)) (omega (arith, ints))

get-scaled : (k : ℤ) (p : List ℤ) (x : ℕ) → get_or (map (λ z. k *ℤ z) p) x (pos 0) ≡ k *ℤ get_or p x (pos 0)
get-scaled k [] x = sym (*ℤ-zero k)
get-scaled k (y ∷ p) zero = refl
get-scaled k (y ∷ p) (suc x) = get-scaled k p x

pub length-scaled : (k : ℤ) (p : List ℤ) → length (map (λ z. k *ℤ z) p) ≡ length p
length-scaled k [] = refl
length-scaled k (y ∷ p) = ap suc (length-scaled k p)

-- what is left of a form's value without the variable
abbrev pub rest : ℤ → List ℤ → ℕ → Row → ℤ
rest d p x r = value d p r.form -ℤ coef_at x r *ℤ get_or p x (pos 0)

-- the point p times k, with t for the variable
abbrev pub moved : ℤ → List ℤ → ℕ → ℤ → List ℤ
moved k p x t = set (map (λ z. k *ℤ z) p) x t

value-moved : (d : ℤ) (p : List ℤ) (x : ℕ) (k t : ℤ) (r : Row) → x < length p → value (k *ℤ d) (moved k p x t) r.form ≡ coef_at x r *ℤ t +ℤ k *ℤ rest d p x r
value-moved d p x k t r h =
    let inside : x < length (map (λ z. k *ℤ z) p) = omega (arith, length-scaled k p) in
    rw (dot-set r.form.coefs (map (λ z. k *ℤ z) p) x t inside, dot-scaled k r.form.coefs p, get-scaled k p x)
    (simp expand (omega (arith, ints, times_swap (coef_at x r) k (get_or p x (pos 0)))))

-- ---- rules 3 and 4 backwards
min-left : (c b : ℤ) → int_min c b ≤ℤ c
min-left c b = omega (arith, ints, clamps)

min-right : (c b : ℤ) → int_min c b ≤ℤ b
min-right c b = omega (arith, ints, clamps)

looser : (D d c b : ℤ) → pos 0 ≤ℤ d → b ≤ℤ c → pos 0 ≤ℤ (D +ℤ d *ℤ b) → pos 0 ≤ℤ (D +ℤ d *ℤ c)
looser D d c b p q h = let k = simp expand at (not_negative_product d (c +ℤ neg_ℤ b) p (omega (arith, ints))) in omega (arith, ints, k)

min-same : (c b : ℤ) → c ≡ b → int_min c b ≡ c
min-same c b e = cond_both (int_lt b c) b c (λ z. z ≡ c) (λ _. sym e) (λ _. refl)

tight-back : (e f : Bool) (D d c b : ℤ) → pos 0 ≤ℤ d → cond e (f && int_eq c b) (not f) ≡ true → Holds e (D +ℤ d *ℤ int_min c b) → Holds e (D +ℤ d *ℤ c) × Holds f (D +ℤ d *ℤ b)
tight-back true true D d c b p s h =
    let same : c ≡ b = int_eq-true c b s in
    let here : D +ℤ d *ℤ c ≡ pos 0 = rw (min-same c b same) at h in
    (here, rw same at here)
tight-back true false D d c b p s h = absurd cc
tight-back false true D d c b p s h = absurd cc
tight-back false false D d c b p s h = (looser D d c _ p (min-left c b) h, looser D d b _ p (min-right c b) h)

tightest-back : (d : ℤ) (p : List ℤ) (r s : Row) → pos 0 ≤ℤ d → is_alike r s ≡ true → MeetsRow d p (tightest r s) → MeetsRow d p r × MeetsRow d p s
tightest-back d p r s q e h =
    let parts = and_parts (is_same_kind r s) _ e in
    let both = tight-back r.equal s.equal (dot r.form.coefs p) d r.form.constant s.form.constant q parts.0 h in
    (both.0, subst (λ (cs : List ℤ). Holds s.equal (dot cs p +ℤ d *ℤ s.form.constant)) (same_ints-true _ _ parts.1) both.1)

absorbed-back : (d : ℤ) (p : List ℤ) (rows : List Row) (s : Row) → pos 0 ≤ℤ d → Meets d p (absorbed rows s) → Meets d p rows × MeetsRow d p s
absorbed-back d p [] s q h = (tt, h.0)
absorbed-back d p (r ∷ rows) s q h =
    elim (cases_Bool (is_alike r s)) [
      | inl e ↦ let k = subst (λ (b : Bool). Meets d p (cond b (tightest r s ∷ rows) (r ∷ absorbed rows s))) e h in let both = tightest-back d p r s q e k.0 in ((both.0, k.1), both.1)
      | inr e ↦ let k = subst (λ (b : Bool). Meets d p (cond b (tightest r s ∷ rows) (r ∷ absorbed rows s))) e h in let more = absorbed-back d p rows s q k.1 in ((k.0, more.0), more.1)
    ]

merge-back : (d : ℤ) (p : List ℤ) (acc rows : List Row) → pos 0 ≤ℤ d → Meets d p (fold absorbed acc rows) → Meets d p acc × Meets d p rows
merge-back d p acc [] q h = (h, tt)
merge-back d p acc (r ∷ rows) q h =
    let more = merge-back d p (absorbed acc r) rows q h in
    let one = absorbed-back d p acc r q more.0 in
    (one.0, (one.1, more.1))

pub merged-back : (d : ℤ) (p : List ℤ) (rows : List Row) → pos 0 ≤ℤ d → Meets d p (merged rows) → Meets d p rows
unfolding merged
merged-back d p rows q h = (merge-back d p [] rows q h).1

Holds-times : (e : Bool) (v g : ℤ) → pos 0 ≤ℤ g → Holds e v → Holds e (v *ℤ g)
Holds-times true v g p h = rw (h, zero-*ℤ g) refl
Holds-times false v g p h = not_negative_product v g h p

pub reduced-back : (d : ℤ) (p : List ℤ) (r : Row) → MeetsRow d p (reduced r) → MeetsRow d p r
unfolding reduced
reduced-back d p r h = split (nat_le (gcd_of (numbers r.form)) 0) h where
  split : (b : Bool) → MeetsRow d p (cond b r (record { equal = r.equal; form = record { coefs = map (λ z. int_div z (pos (gcd_of (numbers r.form)))) r.form.coefs; constant = int_div r.form.constant (pos (gcd_of (numbers r.form))) } })) → MeetsRow d p r
  split true k = k
  split false k = subst (Holds r.equal) (value-divided d p (gcd_of (numbers r.form)) r.form (gcd_of-divides (numbers r.form))) (Holds-times r.equal _ (pos (gcd_of (numbers r.form))) (omega (arith, ints)) k)

-- ---- rules 1 and 2 backwards
-- the size of c, and a or -a, as the factors of a cancellation are times g
abbrev pub against : ℤ → ℤ → ℤ
against c a = cond (int_lt c (pos 0)) a (neg_ℤ a)

pub size-against : (c a : ℤ) → unsigned_abs (against c a) ≡ unsigned_abs a
size-against c a = cond_both (int_lt c (pos 0)) a (neg_ℤ a) (λ (z : ℤ). unsigned_abs z ≡ unsigned_abs a) (λ _. refl) (λ _. omega (arith, ints))

against-pos : (n : ℕ) (a : ℤ) → against (pos n) a ≡ neg_ℤ a
against-pos n a = cond_both (int_lt (pos n) (pos 0)) a (neg_ℤ a) (λ (z : ℤ). z ≡ neg_ℤ a) (λ e. absurd (omega (arith, ltb-true n 0 e))) (λ _. refl)

cancel-value : (a c px V W : ℤ) → pos (unsigned_abs c) *ℤ V +ℤ against c a *ℤ W ≡ a *ℤ against c (W -ℤ c *ℤ px) +ℤ pos (unsigned_abs c) *ℤ (V -ℤ a *ℤ px)
cancel-value a (pos n) px V W = rw (against-pos n a, against-pos n (W -ℤ pos n *ℤ px)) (simp expand (omega (arith, ints, times_swap a (pos n) px)))
cancel-value a (negsuc n) px V W = simp expand (omega (arith, ints, times_swap a (negsuc n) px, flip a n px)) where
  flip : (a : ℤ) (n : ℕ) (px : ℤ) → negsuc n *ℤ (a *ℤ px) ≡ neg_ℤ (pos (suc n) *ℤ (a *ℤ px))
  flip a n px = omega (arith, ints)

-- the equality itself holds at the new point
pub self-value : (c px W : ℤ) → c *ℤ against c (W -ℤ c *ℤ px) +ℤ pos (unsigned_abs c) *ℤ (W -ℤ c *ℤ px) ≡ pos 0
self-value (pos n) px W = rw (against-pos n (W -ℤ pos n *ℤ px)) (simp expand (omega (arith, ints)))
self-value (negsuc n) px W = omega (arith, ints)

pub factor-back : (z : ℤ) (g : ℕ) → g ∣ unsigned_abs z → (V : ℤ) → (int_div z (pos g) *ℤ V) *ℤ pos g ≡ z *ℤ V
factor-back z g d V = swap (int_div z (pos g)) V (pos g) ∙ ap (λ (k : ℤ). k *ℤ V) (divides_out z g d) where
  swap : (q V g : ℤ) → (q *ℤ V) *ℤ g ≡ (q *ℤ g) *ℤ V
  swap q V g = times_assoc q V g ∙ ap (λ (k : ℤ). q *ℤ k) (*ℤ_comm V g) ∙ sym (times_assoc q g V)

pub canceled-back : (d : ℤ) (p : List ℤ) (x : ℕ) (r s : Row) → MeetsRow d p (outcome (canceled x r s))
    → Holds r.equal (pos (unsigned_abs (coef_at x s)) *ℤ value d p r.form +ℤ against (coef_at x s) (coef_at x r) *ℤ value d p s.form)
unfolding outcome canceled
canceled-back d p x r s h =
    let a = coef_at x r in
    let c = coef_at x s in
    let g = gcd (unsigned_abs a) (unsigned_abs c) in
    let is = gcd_is (unsigned_abs a) (unsigned_abs c) in
    let m = int_div (pos (unsigned_abs c)) (pos g) in
    let n = int_div (against c a) (pos g) in
    let made = reduced-back d p (record { equal = r.equal; form = combination m r.form n s.form }) h in
    let sum = subst (Holds r.equal) (value-combined d p m r.form n s.form) made in
    subst (Holds r.equal)
    (sum_times _ _ (pos g) ∙ (λ i. factor-back (pos (unsigned_abs c)) g is.1 (value d p r.form) i +ℤ factor-back (against c a) g (subst (λ (k : ℕ). g ∣ k) (sym (size-against c a)) is.0) (value d p s.form) i))
    (Holds-times r.equal _ (pos g) (omega (arith, ints)) sum)

-- a row without the variable, and a row that was canceled by an equality, hold at the new point
stays-moved : (d : ℤ) (p : List ℤ) (x : ℕ) (k t : ℤ) (r : Row) → x < length p → pos 0 ≤ℤ k → coef_at x r ≡ pos 0 → MeetsRow d p r → MeetsRow (k *ℤ d) (moved k p x t) r
stays-moved d p x k t r l q z h =
    subst (Holds r.equal) (lone (value d p r.form) k t (coef_at x r) (get_or p x (pos 0)) z ∙ sym (value-moved d p x k t r l)) (Holds-times r.equal _ k q h) where
      lone : (V k t a px : ℤ) → a ≡ pos 0 → V *ℤ k ≡ a *ℤ t +ℤ k *ℤ (V -ℤ a *ℤ px)
      lone V k t a px z = rw z (simp expand (omega (arith, ints, *ℤ_comm V k)))

canceled-moved : (d : ℤ) (p : List ℤ) (x : ℕ) (r e : Row) → x < length p → MeetsRow d p (outcome (canceled x r e))
    → MeetsRow (pos (unsigned_abs (coef_at x e)) *ℤ d) (moved (pos (unsigned_abs (coef_at x e))) p x (against (coef_at x e) (rest d p x e))) r
canceled-moved d p x r e l h =
    subst (Holds r.equal) (cancel-value (coef_at x r) (coef_at x e) (get_or p x (pos 0)) (value d p r.form) (value d p e.form) ∙ sym (value-moved d p x (pos (unsigned_abs (coef_at x e))) (against (coef_at x e) (rest d p x e)) r l)) (canceled-back d p x r e h)

-- ---- lists backwards
module _ {A B : Type 0} (Q : B → Type 0) where
  pub each-unmap : (f : A → B) (xs : List A) → AllByRecursion Q (map f xs) → AllByRecursion (λ x. Q (f x)) xs
  each-unmap f [] h = tt
  each-unmap f (x ∷ xs) h = (h.0, each-unmap f xs h.1)

  pub each-unflat : (f : A → List B) (xs : List A) → AllByRecursion Q (flat_map f xs) → AllByRecursion (λ x. AllByRecursion Q (f x)) xs
  each-unflat f [] h = tt
  each-unflat f (x ∷ xs) h = let parts = each-parts Q (f x) (flat_map f xs) h in (parts.0, each-unflat f xs parts.1)

module _ {A : Type 0} (P : A → Type 0) where
  pub each-restore : (xs : List A) (i : ℕ) (e : A) → slice_get xs i ≡ Some e → P e → AllByRecursion P (remove xs i) → AllByRecursion P xs
  each-restore [] i e s h k = tt
  each-restore (x ∷ xs) zero e s h k = let same : e ≡ x = cc in (subst P same h, k)
  each-restore (x ∷ xs) (suc i) e s h k = (k.0, each-restore xs i e s h k.1)

  pub each-of : (test : A → Bool) (xs : List A) → AllByRecursion (λ x. test x ≡ true) (filter test xs)
  each-of test xs = each-weaker (λ x. Unit {0} × (test x ≡ true)) (λ x. test x ≡ true) (λ x w. w.1) _ (each-filter (λ x. Unit {0}) test xs (each-unit xs)) where
    each-unit : (xs : List A) → AllByRecursion (λ x. Unit {0}) xs
    each-unit [] = tt
    each-unit (x ∷ xs) = (tt, each-unit xs)

  -- one filter's elements, from the list's head on
  pub each-head : (test : A → Bool) (x : A) (xs : List A) → AllByRecursion P (filter test (x ∷ xs)) → (test x ≡ true → P x) × AllByRecursion P (filter test xs)
  each-head test x xs h =
      elim (cases_Bool (test x)) [
        | inl e ↦ let k = subst (λ (b : Bool). AllByRecursion P (cond b (x ∷ filter test xs) (filter test xs))) e h in ((λ _. k.0), k.1)
        | inr e ↦ let k = subst (λ (b : Bool). AllByRecursion P (cond b (x ∷ filter test xs) (filter test xs))) e h in ((λ t. absurd cc), k)
      ]

  each-three : (t u v : A → Bool) → ((x : A) → (t x ≡ true) ⊎ ((u x ≡ true) ⊎ (v x ≡ true))) → (xs : List A) → AllByRecursion P (filter t xs) → AllByRecursion P (filter u xs) → AllByRecursion P (filter v xs) → AllByRecursion P xs
  each-three t u v one [] a b c = tt
  each-three t u v one (x ∷ xs) a b c =
      let p = each-head t x xs a in
      let q = each-head u x xs b in
      let r = each-head v x xs c in
      (elim (one x) [ inl e ↦ p.0 e | inr w ↦ elim w [ inl e ↦ q.0 e | inr e ↦ r.0 e ] ], each-three t u v one xs p.1 q.1 r.1)

-- ---- the elimination backwards
outcome-stays : (r : Row) → outcome (stays r) ≡ r
unfolding outcome
outcome-stays r = refl

pub int_eq-no : (c : ℤ) → int_eq c (pos 0) ≡ false → c ≡ pos 0 → ⊥
int_eq-no c e z = true≢false (sym ((Decides-int_eq c (pos 0)).1 z) ∙ e)

cross-of : (a c px V W : ℤ) → c <ℤ pos 0 → pos 0 ≤ℤ (pos (unsigned_abs c) *ℤ V +ℤ against c a *ℤ W) → pos 0 ≤ℤ (neg_ℤ c *ℤ (V -ℤ a *ℤ px) +ℤ a *ℤ (W -ℤ c *ℤ px))
cross-of a (pos n) px V W l h = absurd (omega (arith, ints))
cross-of a (negsuc n) px V W l h = let k = rw (cancel-value a (negsuc n) px V W) at h in omega (arith, ints, k)

inequality-below : (x : ℕ) (r : Row) → is_equality_with x r ≡ false → is_below x r ≡ true → r.equal ≡ false
inequality-below x r e a =
    elim (and_cases r.equal (not (holds_not x r)) e) [
      | inl n ↦ n
      | inr n ↦ absurd (let z : coef_at x r ≡ pos 0 = int_eq-true (coef_at x r) (pos 0) (not-false _ n) in omega (arith, ints))
    ]

one-of : (x : ℕ) (r : Row) → (holds_not x r ≡ true) ⊎ ((is_above x r ≡ true) ⊎ (is_below x r ≡ true))
one-of x r =
    elim (cases_Bool (holds_not x r)) [
      | inl e ↦ inl e
      | inr e ↦ by_lt_z (coef_at x r) (pos 0) (λ l. inr (inr (sym (omega (arith, ints)))))
          (λ l. inr (inl (let other = int_eq-no (coef_at x r) e in sym (above (coef_at x r) l other))))
    ] where
      above : (c : ℤ) → pos 0 ≤ℤ c → (c ≡ pos 0 → ⊥) → true ≡ int_lt (pos 0) c
      above (pos zero) l o = absurd (o refl)
      above (pos (suc n)) l o = omega (arith, ints)
      above (negsuc n) l o = absurd (omega (arith, ints))

-- a number k above 0 and a value t for the variable, so that the point p, times k and with t in it, meets the rows
abbrev pub Reaches : ℤ → List ℤ → ℕ → List Row → Type 0
Reaches d p x rows = (k : ℤ) × (t : ℤ) × (pos 0 <ℤ k) × Meets (k *ℤ d) (moved k p x t) rows

module _ (d : ℤ) (p : List ℤ) (x : ℕ) (l : x < length p) where
  bound-moved : (k t : ℤ) (r : Row) → r.equal ≡ false → Bounds k t (coef_at x r) (rest d p x r) → MeetsRow (k *ℤ d) (moved k p x t) r
  bound-moved k t r e h = rw e (subst (λ (v : ℤ). pos 0 ≤ℤ v) (sym (value-moved d p x k t r l)) h)

  substituted-moved : (e r : Row) → MeetsRow d p (outcome (substituted x e r))
      → MeetsRow (pos (unsigned_abs (coef_at x e)) *ℤ d) (moved (pos (unsigned_abs (coef_at x e))) p x (against (coef_at x e) (rest d p x e))) r
  substituted-moved e r h =
      elim (cases_Bool (holds_not x r)) [
        | inl z ↦ stays-moved d p x (pos (unsigned_abs (coef_at x e))) (against (coef_at x e) (rest d p x e)) r l (omega (arith, ints)) (int_eq-true (coef_at x r) (pos 0) z)
            (subst (MeetsRow d p) (outcome-stays r) (subst (λ (b : Bool). MeetsRow d p (outcome (cond b (stays r) (canceled x r e)))) z h))
        | inr z ↦ canceled-moved d p x r e l (subst (λ (b : Bool). MeetsRow d p (outcome (cond b (stays r) (canceled x r e)))) z h)
      ]

  with_equality : (rows : List Row) (i : ℕ) (e : Row) → slice_get rows i ≡ Some e → is_equality_with x e ≡ true
      → AllByRecursion (λ m. MeetsRow d p (outcome m)) (map (substituted x e) (remove rows i)) → Reaches d p x rows
  with_equality rows i e at is h =
      let c = coef_at x e in
      let k = pos (unsigned_abs c) in
      let t = against c (rest d p x e) in
      let parts = and_parts e.equal (not (holds_not x e)) is in
      let some : 0 < unsigned_abs c = size-some c (int_eq-no c (not-true _ parts.1)) in (
        k,
        t,
        omega (arith, ints),
        each-restore (MeetsRow (k *ℤ d) (moved k p x t)) rows i e at
            (subst (λ (b : Bool). Holds b (value (k *ℤ d) (moved k p x t) e.form)) (sym parts.0) (value-moved d p x k t e l ∙ self-value c (get_or p x (pos 0)) (value d p e.form)))
            (each-weaker (λ r. MeetsRow d p (outcome (substituted x e r))) (MeetsRow (k *ℤ d) (moved k p x t)) (substituted-moved e) (remove rows i)
            (each-unmap (λ m. MeetsRow d p (outcome m)) (substituted x e) (remove rows i) h)),
      )

  with_pairs : (rows : List Row) → AllByRecursion (λ r. is_equality_with x r ≡ false) rows → AllByRecursion (λ m. MeetsRow d p (outcome m)) (paired x rows) → Reaches d p x rows
  unfolding paired
  with_pairs rows none h =
      let Q : Made → Type 0 = λ m. MeetsRow d p (outcome m) in
      let N : Row → Type 0 = λ r. is_equality_with x r ≡ false in
      let aboves = filter (is_above x) rows in
      let belows = filter (is_below x) rows in
      let parts = each-parts Q (map stays (filter (holds_not x) rows)) (flat_map (λ r. map (canceled x r) belows) aboves) h in
      let up = each-filter N (is_above x) rows none in
      let low = each-filter N (is_below x) rows none in
      let cross = each-weaker (λ r. (N r × (is_above x r ≡ true)) × AllByRecursion Q (map (canceled x r) belows))
      (λ r. AllByRecursion (λ s. pos 0 ≤ℤ (neg_ℤ (coef_at x s) *ℤ rest d p x r +ℤ coef_at x r *ℤ rest d p x s)) belows)
      (λ r w. each-weaker (λ s. (N s × (is_below x s ≡ true)) × Q (canceled x r s)) (λ s. pos 0 ≤ℤ (neg_ℤ (coef_at x s) *ℤ rest d p x r +ℤ coef_at x r *ℤ rest d p x s))
      (λ s v. cross-of (coef_at x r) (coef_at x s) (get_or p x (pos 0)) (value d p r.form) (value d p s.form) (let b = v.0.1 in omega (arith, ints))
      (subst (λ (b : Bool). Holds b (pos (unsigned_abs (coef_at x s)) *ℤ value d p r.form +ℤ against (coef_at x s) (coef_at x r) *ℤ value d p s.form)) (inequality-above x r w.0.0 w.0.1) (canceled-back d p x r s v.1)))
      belows (each-both (λ s. N s × (is_below x s ≡ true)) (λ s. Q (canceled x r s)) belows low (each-unmap Q (canceled x r) belows w.1)))
      aboves (each-both (λ r. N r × (is_above x r ≡ true)) (λ r. AllByRecursion Q (map (canceled x r) belows)) aboves up (each-unflat Q (λ r. map (canceled x r) belows) aboves parts.1)) in
      let at = between_all (coef_at x) (rest d p x) aboves belows
      (each-weaker (λ r. N r × (is_above x r ≡ true)) (λ r. pos 0 <ℤ coef_at x r) (λ r w. (let b = w.1 in omega (arith, ints))) aboves up)
      (each-weaker (λ r. N r × (is_below x r ≡ true)) (λ r. coef_at x r <ℤ pos 0) (λ r w. (let b = w.1 in omega (arith, ints))) belows low) cross in
      let P : Row → Type 0 = MeetsRow (at.0 *ℤ d) (moved at.0 p x at.1) in (
        at.0,
        at.1,
        at.2,
        each-three P (holds_not x) (is_above x) (is_below x) (one-of x) rows
            (each-weaker (λ r. (holds_not x r ≡ true) × Q (stays r)) P
            (λ r w. stays-moved d p x at.0 at.1 r l (let b = at.2 in omega (arith, ints)) (int_eq-true (coef_at x r) (pos 0) w.0) (subst (MeetsRow d p) (outcome-stays r) w.1)) _
            (each-both (λ r. holds_not x r ≡ true) (λ r. Q (stays r)) (filter (holds_not x) rows) (each-of (λ r. Unit {0}) (holds_not x) rows) (each-unmap Q stays (filter (holds_not x) rows) parts.0)))
            (each-weaker (λ r. (N r × (is_above x r ≡ true)) × Bounds at.0 at.1 (coef_at x r) (rest d p x r)) P
            (λ r w. bound-moved at.0 at.1 r (inequality-above x r w.0.0 w.0.1) w.1) aboves (each-both _ (λ r. Bounds at.0 at.1 (coef_at x r) (rest d p x r)) aboves up at.3))
            (each-weaker (λ r. (N r × (is_below x r ≡ true)) × Bounds at.0 at.1 (coef_at x r) (rest d p x r)) P
            (λ r w. bound-moved at.0 at.1 r (inequality-below x r w.0.0 w.0.1) w.1) belows (each-both _ (λ r. Bounds at.0 at.1 (coef_at x r) (rest d p x r)) belows low at.4)),
      )

  with_made : (rows : List Row) (i : ℕ) (o : Option Row) → i ≡ position_or_len (is_equality_with x) rows → slice_get rows i ≡ o → AllByRecursion (λ m. MeetsRow d p (outcome m)) (made_with x rows i o) → Reaches d p x rows
  with_made rows i (Some e) at is h = with_equality rows i e is (found-passes (is_equality_with x) rows e (subst (λ (k : ℕ). slice_get rows k ≡ Some e) at is)) h
  with_made rows i None at is h = with_pairs rows (each-none (is_equality_with x) rows (subst (λ (k : ℕ). slice_get rows k ≡ None) at is)) h

-- a point that meets what is left gives one that meets the rows, with a common factor k and a value t for the variable
pub elimination_back : (d : ℤ) (p : List ℤ) (x : ℕ) (rows left : List Row) → pos 0 ≤ℤ d → x < length p → elimination x rows ≡ Ok left → Meets d p left → Reaches d p x rows
unfolding made
elimination_back d p x rows left q l e h =
    let outcomes = merged-back d p (map outcome (made x rows)) q (subst (Meets d p) (sym (left-is x rows left e)) h) in
    with_made d p x l rows _ _ refl refl (each-unmap (MeetsRow d p) outcome (made x rows) outcomes)
