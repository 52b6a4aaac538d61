-- Kept values, entry by entry.
use Rattle.std.proofs.Common.{◌≡◌, refl, ap, ◌∙◌, ℕ, zero, suc, ◌≤◌, ◌<◌, ℤ, true, false, List, [], ◌∷◌, ◌++◌, length, arith, ◌≢◌}
use Rattle.std.proofs.lemmas.Int.{ints}
use Rattle.std.proofs.lemmas.List.Sums.{fold-append}
use Rattle.sparse_marks.specs.Kept.{same, is_among, add, distinct, Placed, values, kept, kept_before}
use Rattle.sparse_marks.specs.Marks.{found}

pub same_is : (a b : ℤ) → same a b ≡ true → a ≡ b
same_is a b h = grind (arith, ints)

pub same_self : (a : ℤ) → same a a ≡ true
same_self a = grind (arith, ints)

pub distinct-snoc : (ws : List ℤ) (w : ℤ) → distinct (ws ++ w ∷ []) ≡ add (distinct ws) w
distinct-snoc ws w = fold-append add [] ws (w ∷ [])

abbrev pub one : ℕ → ℤ → List ℤ → ℕ → Placed
one g w o a = record { group = g; value = w; rest = o; worth = a }

values_here : (es : List Placed) (g : ℕ) (w : ℤ) (o : List ℤ) (a : ℕ) → values g (es ++ one g w o a ∷ []) ≡ values g es ++ w ∷ []
values_here [] g w o a = grind arith
values_here (e ∷ es) g w o a = grind (arith, values_here es g w o a)

values_elsewhere : (es : List Placed) (g h : ℕ) (w : ℤ) (o : List ℤ) (a : ℕ) → g ≢ h → values h (es ++ one g w o a ∷ []) ≡ values h es
values_elsewhere [] g h w o a k = grind arith
values_elsewhere (e ∷ es) g h w o a k = grind (arith, values_elsewhere es g h w o a k)

pub kept_here : (es : List Placed) (g : ℕ) (w : ℤ) (o : List ℤ) (a : ℕ) → kept g (es ++ one g w o a ∷ []) ≡ add (kept g es) w
kept_here es g w o a = ap distinct (values_here es g w o a) ∙ distinct-snoc (values g es) w

pub kept_elsewhere : (es : List Placed) (g h : ℕ) (w : ℤ) (o : List ℤ) (a : ℕ) → g ≢ h → kept h (es ++ one g w o a ∷ []) ≡ kept h es
kept_elsewhere es g h w o a k = ap distinct (values_elsewhere es g h w o a k)

pub kept_before_here : (es : List Placed) (g h : ℕ) (w : ℤ) (o : List ℤ) (a : ℕ) → h ≤ g → kept_before h (es ++ one g w o a ∷ []) ≡ kept_before h es
kept_before_here es g zero w o a k = refl
kept_before_here es g (suc h) w o a k =
    let i : kept_before h (es ++ one g w o a ∷ []) ≡ kept_before h es = kept_before_here es g h w o a (omega arith) in
    let j : kept h (es ++ one g w o a ∷ []) ≡ kept h es = kept_elsewhere es g h w o a (omega arith) in
    ap (λ l. l ++ kept h (es ++ one g w o a ∷ [])) i ∙ ap (λ l. kept_before h es ++ l) j

pub found_none : (w : ℤ) (ks : List ℤ) → is_among w ks ≡ false → found w ks ≡ 0
found_none w [] h = refl
found_none w (k ∷ ks) h = grind (arith, found_none w ks)

pub found_some : (w : ℤ) (ks : List ℤ) → is_among w ks ≡ true → 0 < found w ks
found_some w [] h = cc
found_some w (k ∷ ks) h = grind (arith, found_some w ks)

pub found_new : (w : ℤ) (ks : List ℤ) → is_among w ks ≡ false → found w (ks ++ w ∷ []) ≡ suc (length ks)
found_new w [] h = grind (arith, same_self w)
found_new w (k ∷ ks) h = grind (arith, found_new w ks)

pub found_old : (v w : ℤ) (ks : List ℤ) → same w v ≡ false → found v (ks ++ w ∷ []) ≡ found v ks
found_old v w [] h = grind (arith, ints)
found_old v w (k ∷ ks) h = grind (arith, found_old v w ks h)
