-- A level that is bounded in each direction of a system has bounds in what eliminations leave.
use Rattle.std.proofs.Common.{◌≡◌, inl, inr, ℕ, zero, suc, ◌<◌, Bool, true, false, not, cond, List, [], ◌∷◌, length, map, get_or, set, refl, sym, ◌∙◌, ap, subst, arith, ℤ, pos, negsuc, ◌+ℤ◌, ◌*ℤ◌, ◌≤ℤ◌, ◌<ℤ◌}
use Rattle.std.specs.Prelude.{int_lt, replicate, Ok}
use Rattle.std.specs.Ordering.{int_eq}
use Rattle.std.specs.List.{list_any}
use Rattle.std.proofs.lemmas.Int.{ints}
use Rattle.std.proofs.lemmas.Bool.{cases_Bool, or_parts}
use Rattle.std.proofs.lemmas.Bool.Decides.{Decides-int_eq}
use lib.IntN.{*ℤ-zero}
use Rattle.int_rows.specs.declared.row.Row.{Row}
use Rattle.int_rows.specs.Rows.{dot, value, Holds, Meets, coef_at}
use Rattle.int_rows.specs.Elimination.{elimination}
use Rattle.chill_base.proofs.Ring.{expand, times_assoc, not_negative_product}
use Rattle.int_rows.proofs.Back.{length-scaled, moved, elimination_back}
use Rattle.int_rows.proofs.Excluded.{ok_parts}
use Rattle.system_laws.specs.Bounds.{eliminated_each, bounds_below, bounds_above, AreOthers, IsStill, BoundedLevelHasBounds}
use Rattle.nest_tree.specs.Lists.{IsIn}

length-put : (p : List ℤ) (x : ℕ) (t : ℤ) → length (set p x t) ≡ length p
length-put [] x t = refl
length-put (y ∷ p) zero t = refl
length-put (y ∷ p) (suc x) t = ap suc (length-put p x t)

get-put : (p : List ℤ) (x q : ℕ) (t : ℤ) → (x ≡ q → ⊥) → get_or (set p x t) q (pos 0) ≡ get_or p q (pos 0)
get-put [] x q t h = refl
get-put (y ∷ p) zero zero t h = absurd (h refl)
get-put (y ∷ p) zero (suc q) t h = refl
get-put (y ∷ p) (suc x) zero t h = refl
get-put (y ∷ p) (suc x) (suc q) t h = get-put p x q t (λ e. h (ap suc e))

get-times : (k : ℤ) (p : List ℤ) (x : ℕ) → get_or (map (λ z. k *ℤ z) p) x (pos 0) ≡ k *ℤ get_or p x (pos 0)
get-times k [] x = sym (*ℤ-zero k)
get-times k (y ∷ p) zero = refl
get-times k (y ∷ p) (suc x) = get-times k p x

-- a direction of what is left is one of the system, a positive number of times, but for the eliminated variables
abbrev IsDirection : ℕ → List ℕ → List Row → List ℤ → Type 0
IsDirection n xs rows p = (k : ℤ) × (r : List ℤ) × (pos 0 <ℤ k) × (length r ≡ n) × Meets (pos 0) r rows × ((j : ℕ) → (IsIn j xs → ⊥) → get_or r j (pos 0) ≡ k *ℤ get_or p j (pos 0))

positive-product : (a b : ℤ) → pos 0 <ℤ a → pos 0 <ℤ b → pos 0 <ℤ (a *ℤ b)
positive-product a b h k =
    let more = simp expand at (not_negative_product (a +ℤ negsuc 0) (b +ℤ negsuc 0) (omega (arith, ints)) (omega (arith, ints))) in
    omega (arith, ints, more)

back_each : (n q : ℕ) (xs : List ℕ) (rows left : List Row) (p : List ℤ) → length p ≡ n → AreOthers n q xs → eliminated_each xs rows ≡ Ok left → Meets (pos 0) p left → IsDirection n xs rows p
back_each n q [] rows left p l o e m =
    let d : rows ≡ left = cc in
    (pos 1, p, omega (arith, ints), l, subst (Meets (pos 0) p) (sym d) m, λ j h. omega (arith, ints))
back_each n q (x ∷ xs) rows left p l o e m =
    let f = ok_parts (elimination x rows) (eliminated_each xs) left e in
    let b = back_each n q xs f.0 left p l o.2 f.2 m in
    let r = elimination_back (pos 0) b.1 x rows f.0 (omega (arith, ints)) (omega (arith, o.0, b.3)) f.1 b.4 in
    let z : r.0 *ℤ pos 0 ≡ pos 0 = *ℤ-zero r.0 in (
      r.0 *ℤ b.0,
      moved r.0 b.1 x r.1,
      positive-product r.0 b.0 r.2 b.2,
      length-put (map (λ y. r.0 *ℤ y) b.1) x r.1 ∙ length-scaled r.0 b.1 ∙ b.3,
      subst (λ (d : ℤ). Meets d (moved r.0 b.1 x r.1) rows) z r.3,
      λ j h. get-put (map (λ y. r.0 *ℤ y) b.1) x j r.1 (λ d. h (inl (sym d))) ∙ get-times r.0 b.1 j ∙ ap (λ (y : ℤ). r.0 *ℤ y) (b.5 j (λ a. h (inr a))) ∙ assoc r.0 b.0 (get_or p j (pos 0)),
    )
  where
    assoc : (a b c : ℤ) → a *ℤ (b *ℤ c) ≡ (a *ℤ b) *ℤ c
    assoc a b c = sym (times_assoc a b c)

not_in : (n q : ℕ) (xs : List ℕ) → AreOthers n q xs → IsIn q xs → ⊥
not_in n q [] o h = h
not_in n q (x ∷ xs) o (inl e) = o.1 (sym e)
not_in n q (x ∷ xs) o (inr h) = not_in n q xs o.2 h

-- z at one variable, and 0 at all others
spike : ℕ → ℕ → ℤ → List ℤ
spike zero q z = []
spike (suc n) zero z = z ∷ replicate n (pos 0)
spike (suc n) (suc q) z = pos 0 ∷ spike n q z

length-spike : (n q : ℕ) (z : ℤ) → length (spike n q z) ≡ n
unfolding spike
length-spike zero q z = refl
length-spike (suc n) zero z = ap suc (zeros n)
  where
    zeros : (n : ℕ) → length (replicate n (pos 0)) ≡ n
    zeros zero = refl
    zeros (suc n) = ap suc (zeros n)
length-spike (suc n) (suc q) z = ap suc (length-spike n q z)

get-spike : (n q : ℕ) (z : ℤ) → q < n → get_or (spike n q z) q (pos 0) ≡ z
unfolding spike
get-spike zero q z h = absurd (omega (arith, h))
get-spike (suc n) zero z h = refl
get-spike (suc n) (suc q) z h = get-spike n q z (omega (arith, h))

get-zeros : (n j : ℕ) → get_or (replicate n (pos 0)) j (pos 0) ≡ pos 0
get-zeros zero j = refl
get-zeros (suc n) zero = refl
get-zeros (suc n) (suc j) = get-zeros n j

get-other : (n q : ℕ) (z : ℤ) (j : ℕ) → (j ≡ q → ⊥) → get_or (spike n q z) j (pos 0) ≡ pos 0
unfolding spike
get-other zero q z j h = refl
get-other (suc n) zero z zero h = absurd (h refl)
get-other (suc n) zero z (suc j) h = get-zeros n j
get-other (suc n) (suc q) z zero h = refl
get-other (suc n) (suc q) z (suc j) h = get-other n q z j (λ e. h (ap suc e))

dot-zeros : (cs : List ℤ) (n : ℕ) → dot cs (replicate n (pos 0)) ≡ pos 0
dot-zeros [] n = refl
dot-zeros (c ∷ cs) zero = refl
dot-zeros (c ∷ cs) (suc n) = let a = *ℤ-zero c in let b = dot-zeros cs n in omega (arith, ints, a, b)

dot-spike : (cs : List ℤ) (n q : ℕ) (z : ℤ) → q < n → dot cs (spike n q z) ≡ get_or cs q (pos 0) *ℤ z
unfolding spike
dot-spike [] n q z h = omega (arith, ints)
dot-spike (c ∷ cs) zero q z h = absurd (omega (arith, h))
dot-spike (c ∷ cs) (suc n) zero z h = let b = dot-zeros cs n in omega (arith, ints, b)
dot-spike (c ∷ cs) (suc n) (suc q) z h = let a = *ℤ-zero c in let b = dot-spike cs n q z (omega (arith, h)) in omega (arith, ints, a, b)

-- rows none of which bounds the variable on one side go on for ever there
module _ (n q : ℕ) (l : q < n) where
  at-spike : (z : ℤ) (r : Row) → value (pos 0) (spike n q z) r.form ≡ coef_at q r *ℤ z
  at-spike z r = let a = dot-spike r.form.coefs n q z l in omega (arith, ints, a)

  above-row : (e : Bool) (c V : ℤ) → V ≡ c *ℤ pos 1 → cond e (not (int_eq c (pos 0))) (int_lt c (pos 0)) ≡ false → Holds e V
  above-row true c V v h = let d : c ≡ pos 0 = (Decides-int_eq c (pos 0)).0 (opposite (int_eq c (pos 0)) h) in omega (arith, ints, v, d)
    where
      opposite : (b : Bool) → not b ≡ false → b ≡ true
      opposite true k = refl
      opposite false k = absurd cc
  above-row false c V v h = let d : pos 0 ≤ℤ c = grind (arith, ints) in omega (arith, ints, v, d)

  below-row : (e : Bool) (c V : ℤ) → V ≡ c *ℤ negsuc 0 → cond e (not (int_eq c (pos 0))) (int_lt (pos 0) c) ≡ false → Holds e V
  below-row true c V v h = let d : c ≡ pos 0 = (Decides-int_eq c (pos 0)).0 (opposite (int_eq c (pos 0)) h) in omega (arith, ints, v, d)
    where
      opposite : (b : Bool) → not b ≡ false → b ≡ true
      opposite true k = refl
      opposite false k = absurd cc
  below-row false c V v h = let d : c ≤ℤ pos 0 = grind (arith, ints) in omega (arith, ints, v, d)

  not_above : (rows : List Row) → list_any (bounds_above q) rows ≡ false → Meets (pos 0) (spike n q (pos 1)) rows
  not_above [] h = tt
  not_above (r ∷ rows) h = let b = or_parts (bounds_above q r) (list_any (bounds_above q) rows) h in (above-row r.equal (coef_at q r) (value (pos 0) (spike n q (pos 1)) r.form) (at-spike (pos 1) r) b.0, not_above rows b.1)

  not_below : (rows : List Row) → list_any (bounds_below q) rows ≡ false → Meets (pos 0) (spike n q (negsuc 0)) rows
  not_below [] h = tt
  not_below (r ∷ rows) h = let b = or_parts (bounds_below q r) (list_any (bounds_below q) rows) h in (below-row r.equal (coef_at q r) (value (pos 0) (spike n q (negsuc 0)) r.form) (at-spike (negsuc 0) r) b.0, not_below rows b.1)

-- a direction that begins with a number at q alone ends there
ends : (n q : ℕ) (xs : List ℕ) (rows left : List Row) (z : ℤ) → q < n → AreOthers n q xs → eliminated_each xs rows ≡ Ok left → Meets (pos 0) (spike n q z) left
    → ((p : List ℤ) → length p ≡ n → IsStill q xs p → Meets (pos 0) p rows → get_or p q (pos 0) ≡ pos 0) → (k : ℤ) × (pos 0 <ℤ k) × (k *ℤ z ≡ pos 0)
ends n q xs rows left z l o e m none =
    let b = back_each n q xs rows left (spike n q z) (length-spike n q z) o e m in
    let still : IsStill q xs b.1 = λ j h d. b.5 j h ∙ ap (λ (y : ℤ). b.0 *ℤ y) (get-other n q z j d) ∙ *ℤ-zero b.0 in
    let g : get_or b.1 q (pos 0) ≡ b.0 *ℤ z = b.5 q (not_in n q xs o) ∙ ap (λ (y : ℤ). b.0 *ℤ y) (get-spike n q z l) in
    (b.0, b.2, sym g ∙ none b.1 b.3 still b.4)

pub has_bounds : BoundedLevelHasBounds
has_bounds n q xs rows left l o e none = (
  elim (cases_Bool (list_any (bounds_below q) left)) [
    | inl t ↦ t
    | inr f ↦ absurd (let d = ends n q xs rows left (negsuc 0) l o e (not_below n q l left f) none in let k = d.1 in let g = d.2 in omega (arith, ints, k, g))
  ],
  elim (cases_Bool (list_any (bounds_above q) left)) [
    | inl t ↦ t
    | inr f ↦ absurd (let d = ends n q xs rows left (pos 1) l o e (not_above n q l left f) none in let k = d.1 in let g = d.2 in omega (arith, ints, k, g))
  ],
)
