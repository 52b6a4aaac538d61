-- The kept values of all groups stand one behind the other.
use Rattle.std.proofs.Common.{◌||◌, ◌≡◌, refl, sym, ap, ◌∙◌, subst, ℕ, zero, suc, ◌+◌, ◌≤◌, ◌<◌, ℤ, Bool, true, false, List, [], ◌∷◌, ◌++◌, length, if◌then◌else◌, nat_lt, arith, length-append}
use Rattle.sparse_marks.specs.Kept.{same, is_among, Placed, kept, kept_before, start, standing, position, nth}
use Rattle.sparse_marks.specs.Marks.{found}
use Rattle.sparse_marks.specs.Laws.{AreDistinct, StandsAt}
use Rattle.sparse_marks.proofs.Values.{same_is, same_self}
use Rattle.sparse_marks.proofs.Keeping.{standing_inside}

pub start_next : (g : ℕ) (es : List Placed) → start (suc g) es ≡ start g es + length (kept g es)
start_next g es = length-append (kept_before g es) (kept g es)

pub start_rises : (h g : ℕ) (es : List Placed) → h ≤ g → start h es ≤ start g es
start_rises h zero es k = let e : h ≡ 0 = omega arith in subst (λ h. start h es ≤ 0) (sym e) (omega arith)
start_rises h (suc g) es k = rises_by h g es _ refl k (start_rises h g es)
  where
    rises_by : (h g : ℕ) (es : List Placed) (b : Bool) → nat_lt g h ≡ b → h ≤ suc g → (h ≤ g → start h es ≤ start g es) → start h es ≤ start (suc g) es
    rises_by h g es false e k f = let i : start h es ≤ start g es = f (grind (arith, e)) in omega (arith, i, start_next g es)
    rises_by h g es true e k f = let q : suc g ≡ h = grind (arith, e, k) in subst (λ h. start h es ≤ start (suc g) es) q (omega arith)

-- 1 more than the position is what is found
pub found_standing : (w : ℤ) (ks : List ℤ) → is_among w ks ≡ true → found w ks ≡ suc (standing w ks)
found_standing w [] h = cc
found_standing w (k ∷ ks) h = grind (arith, found_standing w ks)

nth_front : (ws vs : List ℤ) (p : ℕ) → p < length ws → nth (ws ++ vs) p ≡ nth ws p
nth_front [] vs p h = absurd (omega (arith, h))
nth_front (w ∷ ws) vs zero h = refl
nth_front (w ∷ ws) vs (suc p) h = nth_front ws vs p (omega (arith, h))

nth_back : (ws vs : List ℤ) (p : ℕ) → nth (ws ++ vs) (length ws + p) ≡ nth vs p
nth_back [] vs p = ap (nth vs) (let e : 0 + p ≡ p = omega arith in e)
nth_back (w ∷ ws) vs p = ap (nth (w ∷ (ws ++ vs))) (let e : suc (length ws) + p ≡ suc (length ws + p) = omega arith in e) ∙ nth_back ws vs p

pub nth_standing : (w : ℤ) (ks : List ℤ) → is_among w ks ≡ true → nth ks (standing w ks) ≡ w
nth_standing w [] h = cc
nth_standing w (k ∷ ks) h = by _ refl (nth_standing w ks)
  where
    by : (b : Bool) → same w k ≡ b → (is_among w ks ≡ true → nth ks (standing w ks) ≡ w) → nth (k ∷ ks) (if b then 0 else suc (standing w ks)) ≡ w
    by true e f = sym (same_is w k e)
    by false e f = f (let q : is_among w ks ≡ true = grind (arith, e, h) in q)

inside : (es : List Placed) (g n : ℕ) (w : ℤ) → g < n → is_among w (kept g es) ≡ true → position g w es < start n es
inside es g n w h k =
    let a : start (suc g) es ≤ start n es = start_rises (suc g) n es h in
    let b : standing w (kept g es) < length (kept g es) = standing_inside w (kept g es) k in
    omega (arith, a, b, start_next g es)

value_there : (es : List Placed) (g n : ℕ) (w : ℤ) → g < n → is_among w (kept g es) ≡ true → nth (kept_before n es) (position g w es) ≡ w
value_there es g zero w h k = absurd (omega (arith, h))
value_there es g (suc n) w h k = by _ refl (value_there es g n w)
  where
    last : (g : ℕ) → g ≡ n → is_among w (kept g es) ≡ true → nth (kept_before (suc n) es) (position g w es) ≡ w
    last g e = subst (λ g. is_among w (kept g es) ≡ true → nth (kept_before (suc n) es) (position g w es) ≡ w) (sym e)
        (λ k. nth_back (kept_before n es) (kept n es) (standing w (kept n es)) ∙ nth_standing w (kept n es) k)

    by : (b : Bool) → nat_lt g n ≡ b → (g < n → is_among w (kept g es) ≡ true → nth (kept_before n es) (position g w es) ≡ w) → nth (kept_before (suc n) es) (position g w es) ≡ w
    by true e f = let l : g < n = grind (arith, e) in nth_front (kept_before n es) (kept n es) _ (inside es g n w l k) ∙ f l k
    by false e f = last g (grind (arith, e, h)) k

pub stands_at : (es : List Placed) → StandsAt es
stands_at es = record { first = refl; next = λ g. start_next g es; inside = inside es; value = value_there es }

-- the value at a place of a list without repetition stands there
pub nth_among : (ks : List ℤ) (q : ℕ) → q < length ks → is_among (nth ks q) ks ≡ true
nth_among [] q h = absurd (omega (arith, h))
nth_among (k ∷ ks) zero h = let e : same k k ≡ true = same_self k in grind (arith, e)
nth_among (k ∷ ks) (suc q) h = let e : is_among (nth ks q) ks ≡ true = nth_among ks q (omega (arith, h)) in or_true (same (nth ks q) k) _ e
  where
    or_true : (b c : Bool) → c ≡ true → (b || c) ≡ true
    or_true true c h = refl
    or_true false c h = h

pub standing_nth : (ks : List ℤ) (q : ℕ) → AreDistinct ks → q < length ks → standing (nth ks q) ks ≡ q
standing_nth [] q d h = absurd (omega (arith, h))
standing_nth (k ∷ ks) zero d h = ap (λ b. if b then 0 else suc (standing k ks)) (same_self k)
standing_nth (k ∷ ks) (suc q) d h = by _ refl (nth_among ks q (omega (arith, h))) (standing_nth ks q (d.1) (omega (arith, h)))
  where
    by : (b : Bool) → same (nth ks q) k ≡ b → is_among (nth ks q) ks ≡ true → standing (nth ks q) ks ≡ q → (if b then 0 else suc (standing (nth ks q) ks)) ≡ suc q
    by true e i f = absurd (let z : is_among k ks ≡ true = ap (λ u. is_among u ks) (sym (same_is (nth ks q) k e)) ∙ i in let y : is_among k ks ≡ false = d.0 in grind (arith, z, y))
    by false e i f = ap suc f
