-- Each old level's form holds a new level, and is over the new variables.
use Rattle.std.proofs.Common.{◌≡◌, ℕ, zero, suc, arith, ◌<◌, ◌≤◌, ◌+◌, ◌-◌, true, false, cond, nat_eq, nat_le, List, [], ◌∷◌, ◌++◌, length, map, take, drop, replicate, refl, ◌∙◌, subst, ℤ, pos, get_or, length-append, length-take, length-drop, eq-eqb}
use Rattle.std.specs.Prelude.{IsTrue, neg_ℤ}
use Rattle.std.specs.Ordering.{int_eq}
use Rattle.std.proofs.lemmas.Bool.{cond_both, eqb-true}
use Rattle.std.proofs.lemmas.List.{length-replicate, get_or-append-add, get_or-take, get_or-drop, length-map, get_or_append_left}
use Rattle.int_rows.specs.declared.row.Aff.{Aff}
use Rattle.nest_core.specs.Forms.{has_vars}
use Rattle.nest_core.specs.Pieces.{last_held}
use Rattle.affine_moves.specs.declared.change.Change.{Change}
use Rattle.affine_moves.specs.declared.change.Change.TheVariants.{Stay, Order, Tile, Skew, Shift}
use Rattle.affine_moves.specs.Change.{suits, place_of, new_depth, padded, unit, unskewed, unshifted, old_form}
use Rattle.affine_moves.proofs.Places.{and, place_of-below}

last_held-kept : (q found : ℕ) (zs : List ℤ) → 0 < found → 0 < last_held q found zs
last_held-kept q found [] h = h
last_held-kept q found (z ∷ zs) h =
    last_held-kept (suc q) (cond (int_eq z (pos 0)) found (suc q)) zs (cond_both (int_eq z (pos 0)) found (suc q) (λ n. 0 < n) (λ _. h) (λ _. omega arith))

-- a number that isn't 0 is found
pub last_held-some : (q found : ℕ) (zs : List ℤ) (i : ℕ) → i < length zs → int_eq (get_or zs i (pos 0)) (pos 0) ≡ false → 0 < last_held q found zs
last_held-some q found [] i l h = absurd (omega (arith, l))
last_held-some q found (z ∷ zs) zero l h = last_held-kept (suc q) (cond (int_eq z (pos 0)) found (suc q)) zs (rw h (omega arith))
last_held-some q found (z ∷ zs) (suc i) l h = last_held-some (suc q) (cond (int_eq z (pos 0)) found (suc q)) zs i (omega (arith, l)) h

-- of the new levels' numbers
pub last_held-level : (params levels p : ℕ) (cs : List ℤ) → p < levels → params + levels ≤ length cs → get_or cs (params + p) (pos 0) ≡ pos 1 → 0 < last_held 0 0 (take levels (drop params cs))
last_held-level params levels p cs l w h =
    let at : get_or (take levels (drop params cs)) p (pos 0) ≡ pos 1 = get_or-take levels (drop params cs) p (pos 0) l ∙ get_or-drop params cs p (pos 0) ∙ h in
    let long : p < length (take levels (drop params cs)) = grind (arith, length-take, length-drop) in
    last_held-some 0 0 (take levels (drop params cs)) p long (rw at refl)

-- ---- padded numbers
pub length-padded : (vars v : ℕ) (zs : List ℤ) → v + length zs ≤ vars → length (padded vars v zs) ≡ vars
unfolding padded
length-padded vars v zs l = grind (arith, length-append, length-replicate)

padded-at : (vars v : ℕ) (zs : List ℤ) (i : ℕ) → i < length zs → get_or (padded vars v zs) (v + i) (pos 0) ≡ get_or zs i (pos 0)
unfolding padded
padded-at vars v zs i l =
    let long : length (replicate v (pos 0)) ≡ v = length-replicate v (pos 0) in
    let low : v + i < length (replicate v (pos 0) ++ zs) = rw (length-append (replicate v (pos 0)) zs, long) (omega (arith, l)) in
    get_or_append_left (replicate v (pos 0) ++ zs) (replicate (vars - (v + length zs)) (pos 0)) (pos 0) (v + i) low
    ∙ subst (λ (k : ℕ). get_or (replicate v (pos 0) ++ zs) (k + i) (pos 0) ≡ get_or zs i (pos 0)) long (get_or-append-add (replicate v (pos 0)) zs i (pos 0))

-- ---- the forms of old levels
-- a form over so many variables that holds the one at a place once
pub record HoldsOne (vars v : ℕ) (f : Aff) : Type 0 where
  pub width : has_vars vars f ≡ true
  pub one : get_or f.coefs v (pos 0) ≡ pos 1

pub unit-holds : (vars v : ℕ) → v < vars → HoldsOne vars v (unit vars v)
unfolding unit
unit-holds vars v l =
    let zero_more : v + 0 ≡ v = omega arith in
    record {
      width = eq-eqb (length (padded vars v (pos 1 ∷ []))) vars (length-padded vars v (pos 1 ∷ []) (omega (arith, l)));
      one = subst (λ (k : ℕ). get_or (padded vars v (pos 1 ∷ [])) k (pos 0) ≡ pos 1) zero_more (padded-at vars v (pos 1 ∷ []) 0 (omega arith));
    }

unshifted-holds : (vars v : ℕ) (amount : ℤ) → v < vars → HoldsOne vars v (unshifted vars v amount)
unfolding unshifted
unshifted-holds vars v amount l =
    let zero_more : v + 0 ≡ v = omega arith in
    record {
      width = eq-eqb (length (padded vars v (pos 1 ∷ []))) vars (length-padded vars v (pos 1 ∷ []) (omega (arith, l)));
      one = subst (λ (k : ℕ). get_or (padded vars v (pos 1 ∷ [])) k (pos 0) ≡ pos 1) zero_more (padded-at vars v (pos 1 ∷ []) 0 (omega arith));
    }

unskewed-holds : (vars params : ℕ) (coefs : List ℤ) → params + length coefs < vars → HoldsOne vars (params + length coefs) (unskewed vars params coefs)
unfolding unskewed
unskewed-holds vars params coefs l =
    let before : length (map neg_ℤ coefs) ≡ length coefs = length-map coefs neg_ℤ in
    let long : length (map neg_ℤ coefs ++ pos 1 ∷ []) ≡ suc (length coefs) = length-append (map neg_ℤ coefs) (pos 1 ∷ []) ∙ omega (arith, before) in
    let last = get_or-append-add (map neg_ℤ coefs) (pos 1 ∷ []) 0 (pos 0) in
    let zero_more : length (map neg_ℤ coefs) + 0 ≡ length coefs = omega (arith, before) in
    let one : get_or (map neg_ℤ coefs ++ pos 1 ∷ []) (length coefs) (pos 0) ≡ pos 1 = subst (λ (k : ℕ). get_or (map neg_ℤ coefs ++ pos 1 ∷ []) k (pos 0) ≡ pos 1) zero_more last in
    record {
      width = eq-eqb (length (padded vars params (map neg_ℤ coefs ++ pos 1 ∷ []))) vars (length-padded vars params (map neg_ℤ coefs ++ pos 1 ∷ []) (omega (arith, l, long)));
      one = padded-at vars params (map neg_ℤ coefs ++ pos 1 ∷ []) (length coefs) (omega (arith, long)) ∙ one;
    }

skew_place : (level : ℕ) (coefs : List ℤ) (l : ℕ) → length coefs ≡ l → length coefs ≡ place_of (Skew level coefs) l
unfolding place_of
skew_place level coefs l e = e

-- each old level's form holds its new place once
pub old_form-holds : (vars params d l : ℕ) (c : Change) → IsTrue (suits d c) → l < d → params + new_depth c d ≤ vars → HoldsOne vars (params + place_of c l) (old_form vars params c l)
unfolding old_form
old_form-holds vars params d l Stay s h w = unit-holds vars (params + place_of Stay l) (omega (arith, w, place_of-below Stay d l s h))
old_form-holds vars params d l (Order order) s h w = unit-holds vars (params + place_of (Order order) l) (omega (arith, w, place_of-below (Order order) d l s h))
old_form-holds vars params d l (Tile level size outer) s h w = unit-holds vars (params + place_of (Tile level size outer) l) (omega (arith, w, place_of-below (Tile level size outer) d l s h))
old_form-holds vars params d l (Shift level amount) s h w =
    let low = place_of-below (Shift level amount) d l s h in
    cond_both (nat_eq (suc l) level) (unshifted vars (params + place_of (Shift level amount) l) amount) (unit vars (params + place_of (Shift level amount) l)) (HoldsOne vars (params + place_of (Shift level amount) l))
    (λ _. unshifted-holds vars (params + place_of (Shift level amount) l) amount (omega (arith, w, low)))
    (λ _. unit-holds vars (params + place_of (Shift level amount) l) (omega (arith, w, low)))
old_form-holds vars params d l (Skew level coefs) s h w =
    let low = place_of-below (Skew level coefs) d l s h in
    let count : level ≡ suc (length coefs) = eqb-true level (suc (length coefs)) (and (nat_eq level (suc (length coefs))) (nat_le level d) s).0 in
    cond_both (nat_eq (suc l) level) (unskewed vars params coefs) (unit vars (params + place_of (Skew level coefs) l)) (HoldsOne vars (params + place_of (Skew level coefs) l))
    (λ e. (let same : length coefs ≡ place_of (Skew level coefs) l = skew_place level coefs l (omega (arith, count, eqb-true (suc l) level e)) in
    subst (λ (k : ℕ). HoldsOne vars (params + k) (unskewed vars params coefs)) same (unskewed-holds vars params coefs (rw same (omega (arith, w, low))))))
    (λ _. unit-holds vars (params + place_of (Skew level coefs) l) (omega (arith, w, low)))
