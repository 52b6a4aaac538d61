-- The affine commands map level values one to one.
use Rattle.std.proofs.Common.{◌≡◌, ◌⊎◌, inl, inr, ℕ, zero, suc, ◌+◌, ◌<◌, ◌≤◌, List, [], ◌∷◌, map, length, refl, sym, ◌∙◌, ap, subst, arith, ℤ, pos, negsuc, ◌+ℤ◌, ◌*ℤ◌, neg_ℤ, ◌≤ℤ◌, ◌<ℤ◌, true, cond, nat_eq}
use Rattle.std.specs.Int.{int_div_euclid}
use Rattle.std.proofs.lemmas.Int.{ints}
use Rattle.std.proofs.lemmas.Bool.{cases_Bool}
use Rattle.std.proofs.lemmas.Bool.Decides.{nat_tests}
use Rattle.chill_base.proofs.Ring.{not_negative_product, expand}
use Rattle.nest_tree.specs.Lists.{IsIn}
use Rattle.nest_tree.specs.Levels.{at_level, without, inserted, permuted, IsPermutation, value_for, unpermuted, NoTwice, IsInTile, IsTiled, skewed, unskewed, shifted}

-- ---- `shift`
pub shifted-back : (l : ℕ) (a : ℤ) (vs : List ℤ) → shifted l (neg_ℤ a) (shifted l a vs) ≡ vs
shifted-back l a [] = refl
shifted-back zero a (v ∷ vs) = refl
shifted-back (suc zero) a (v ∷ vs) = let e : (v +ℤ a) +ℤ neg_ℤ a ≡ v = omega (arith, ints) in ap (λ (x : ℤ). x ∷ vs) e
shifted-back (suc (suc l)) a (v ∷ vs) = ap (λ (xs : List ℤ). v ∷ xs) (shifted-back (suc l) a vs)

pub shifted-forth : (l : ℕ) (a : ℤ) (vs : List ℤ) → shifted l a (shifted l (neg_ℤ a) vs) ≡ vs
shifted-forth l a [] = refl
shifted-forth zero a (v ∷ vs) = refl
shifted-forth (suc zero) a (v ∷ vs) = let e : (v +ℤ neg_ℤ a) +ℤ a ≡ v = omega (arith, ints) in ap (λ (x : ℤ). x ∷ vs) e
shifted-forth (suc (suc l)) a (v ∷ vs) = ap (λ (xs : List ℤ). v ∷ xs) (shifted-forth (suc l) a vs)

pub shifted-length : (l : ℕ) (a : ℤ) (vs : List ℤ) → length (shifted l a vs) ≡ length vs
shifted-length l a [] = refl
shifted-length zero a (v ∷ vs) = refl
shifted-length (suc zero) a (v ∷ vs) = refl
shifted-length (suc (suc l)) a (v ∷ vs) = ap (λ (n : ℕ). suc n) (shifted-length (suc l) a vs)

-- ---- `skew`
pub skewed-back : (cs : List ℤ) (s : ℤ) (vs : List ℤ) → unskewed cs s (skewed cs s vs) ≡ vs
skewed-back cs s [] = refl
skewed-back [] s (v ∷ vs) = let e : (v +ℤ s) +ℤ neg_ℤ s ≡ v = omega (arith, ints) in ap (λ (x : ℤ). x ∷ vs) e
skewed-back (c ∷ cs) s (v ∷ vs) = ap (λ (xs : List ℤ). v ∷ xs) (skewed-back cs (s +ℤ (c *ℤ v)) vs)

pub skewed-forth : (cs : List ℤ) (s : ℤ) (ws : List ℤ) → skewed cs s (unskewed cs s ws) ≡ ws
skewed-forth cs s [] = refl
skewed-forth [] s (w ∷ ws) = let e : (w +ℤ neg_ℤ s) +ℤ s ≡ w = omega (arith, ints) in ap (λ (x : ℤ). x ∷ ws) e
skewed-forth (c ∷ cs) s (w ∷ ws) = ap (λ (xs : List ℤ). w ∷ xs) (skewed-forth cs (s +ℤ (c *ℤ w)) ws)

pub skewed-length : (cs : List ℤ) (s : ℤ) (vs : List ℤ) → length (skewed cs s vs) ≡ length vs
skewed-length cs s [] = refl
skewed-length [] s (v ∷ vs) = refl
skewed-length (c ∷ cs) s (v ∷ vs) = ap (λ (n : ℕ). suc n) (skewed-length cs (s +ℤ (c *ℤ v)) vs)

-- ---- `tile`
numbers_apart : (x y : ℤ) → (x <ℤ y) ⊎ ((x ≡ y) ⊎ (y <ℤ x))
numbers_apart x y = grind (arith, ints)

-- the floor of the quotient is the tile of a value
pub quotient_is : (n : ℕ) (v : ℤ) → IsInTile (pos (suc n)) (int_div_euclid v (pos (suc n))) v
quotient_is n (pos a) = record { low = omega (arith, ints); high = omega (arith, ints) }
quotient_is n (negsuc a) = record { low = omega (arith, ints); high = omega (arith, ints) }

not_later : (n : ℕ) (t u v : ℤ) → IsInTile (pos (suc n)) t v → IsInTile (pos (suc n)) u v → t <ℤ u → ⊥
not_later n t u v h k l =
    let p : pos 0 ≤ℤ (pos (suc n) *ℤ (u +ℤ (neg_ℤ t +ℤ negsuc 0))) = not_negative_product (pos (suc n)) (u +ℤ (neg_ℤ t +ℤ negsuc 0)) (omega (arith, ints)) (omega (arith, ints)) in
    let q = simp expand at p in
    let a = h.high in
    let b = k.low in
    omega (arith, ints)

pub one_tile : (n : ℕ) (t u v : ℤ) → IsInTile (pos (suc n)) t v → IsInTile (pos (suc n)) u v → t ≡ u
one_tile n t u v h k =
    elim (numbers_apart t u) [
      | inl l ↦ absurd (not_later n t u v h k l)
      | inr (inl e) ↦ e
      | inr (inr l) ↦ absurd (not_later n u t v k h l)
    ]

pub inserted-length : (l : ℕ) (t : ℤ) (vs : List ℤ) → length (inserted l t vs) ≡ suc (length vs)
inserted-length zero t vs = refl
inserted-length (suc zero) t vs = refl
inserted-length (suc (suc l)) t [] = refl
inserted-length (suc (suc l)) t (v ∷ vs) = ap (λ (n : ℕ). suc n) (inserted-length (suc l) t vs)

pub inserted-without : (l : ℕ) (t : ℤ) (vs : List ℤ) → l ≤ length vs → without (suc l) (inserted (suc l) t vs) ≡ vs
inserted-without zero t vs h = refl
inserted-without (suc l) t [] h = absurd (omega (arith, h))
inserted-without (suc l) t (v ∷ vs) h = ap (λ (xs : List ℤ). v ∷ xs) (inserted-without l t vs (omega (arith, h)))

pub inserted-level : (l : ℕ) (t : ℤ) (vs : List ℤ) → l ≤ length vs → at_level (suc l) (inserted (suc l) t vs) ≡ t
inserted-level zero t vs h = refl
inserted-level (suc l) t [] h = absurd (omega (arith, h))
inserted-level (suc l) t (v ∷ vs) h = inserted-level l t vs (omega (arith, h))

-- a level and the rest tell the list
without-tells : (l : ℕ) (ws zs : List ℤ) → l < length ws → length zs ≡ length ws → at_level (suc l) ws ≡ at_level (suc l) zs → without (suc l) ws ≡ without (suc l) zs → ws ≡ zs
without-tells l [] zs h e f g = absurd (omega (arith, h))
without-tells l (w ∷ ws) [] h e f g = absurd (omega (arith, e))
without-tells zero (w ∷ ws) (z ∷ zs) h e f g = ap (λ (x : ℤ). x ∷ ws) f ∙ ap (λ (xs : List ℤ). z ∷ xs) g
without-tells (suc l) (w ∷ ws) (z ∷ zs) h e f g =
    let a : w ≡ z = cc in
    let b : without (suc l) ws ≡ without (suc l) zs = cc in
    ap (λ (x : ℤ). x ∷ ws) a ∙ ap (λ (xs : List ℤ). z ∷ xs) (without-tells l ws zs (omega (arith, h)) (omega (arith, e)) f b)

-- each old instance has a new one
pub tiled_exists : (n outer level : ℕ) (old : List ℤ) → outer ≤ length old → (new : List ℤ) × IsTiled (pos (suc n)) (suc outer) level old new
tiled_exists n outer level old h =
    let t = int_div_euclid (at_level level old) (pos (suc n)) in (
      inserted (suc outer) t old,
      record {
        longer = inserted-length (suc outer) t old;
        stays = inserted-without outer t old h;
        tile = subst (λ (u : ℤ). IsInTile (pos (suc n)) u (at_level level old)) (sym (inserted-level outer t old h)) (quotient_is n (at_level level old));
      },
    )

-- and one alone
pub tiled_one : (n outer level : ℕ) (old new new' : List ℤ) → outer ≤ length old → IsTiled (pos (suc n)) (suc outer) level old new → IsTiled (pos (suc n)) (suc outer) level old new' → new ≡ new'
tiled_one n outer level old new new' h a b =
    let p = a.longer in
    let q = b.longer in
    without-tells outer new new' (omega arith) (omega arith) (one_tile n (at_level (suc outer) new) (at_level (suc outer) new') (at_level level old) a.tile b.tile) (a.stays ∙ sym b.stays)

-- a level from the new one on is the next level of the new list
pub level-without : (outer l : ℕ) (ws : List ℤ) → outer ≤ l → at_level (suc (suc l)) ws ≡ at_level (suc l) (without (suc outer) ws)
level-without outer l [] h = refl
level-without zero l (w ∷ ws) h = refl
level-without (suc outer) zero (w ∷ ws) h = absurd (omega (arith, h))
level-without (suc outer) (suc l) (w ∷ ws) h = level-without outer l ws (omega (arith, h))

-- ---- `permute`
same_number : (p q : ℕ) → nat_eq p q ≡ true → p ≡ q
same_number p q t = grind (arith, nat_tests, t)

no_level : (vs : List ℤ) → at_level 0 vs ≡ pos 0
no_level [] = refl
no_level (v ∷ vs) = refl

-- lists of one length with the same value at each level
pub by_levels : (us vs : List ℤ) → length us ≡ length vs → ((l : ℕ) → 0 < l → l ≤ length us → at_level l us ≡ at_level l vs) → us ≡ vs
by_levels [] [] e h = refl
by_levels [] (v ∷ vs) e h = absurd (omega (arith, e))
by_levels (u ∷ us) [] e h = absurd (omega (arith, e))
by_levels (u ∷ us) (v ∷ vs) e h =
    ap (λ (x : ℤ). x ∷ us) (h 1 (omega arith) (omega arith)) ∙ ap (λ (xs : List ℤ). v ∷ xs) (by_levels us vs (omega (arith, e)) (λ l a b. next l a b))
  where
    next : (l : ℕ) → 0 < l → l ≤ length us → at_level l us ≡ at_level l vs
    next zero a b = absurd (omega (arith, a))
    next (suc l) a b = h (suc (suc l)) (omega arith) (omega (arith, b))

map-alike : (f g : ℕ → ℤ) (ks : List ℕ) → ((k : ℕ) → IsIn k ks → f k ≡ g k) → map f ks ≡ map g ks
map-alike f g [] h = refl
map-alike f g (k ∷ ks) h = ap (λ (a : ℤ). a ∷ map f ks) (h k (inl refl)) ∙ ap (λ (l : List ℤ). g k ∷ l) (map-alike f g ks (λ j m. h j (inr m)))

here : (o : ℕ) (v w : ℤ) → cond (nat_eq o o) v w ≡ v
here o v w = let t : nat_eq o o ≡ true = grind (arith, nat_tests) in rw t refl

passed : (o k : ℕ) (v w : ℤ) → (o ≡ k → ⊥) → cond (nat_eq o k) v w ≡ w
passed o k v w n = elim (cases_Bool (nat_eq o k)) [ inl t ↦ absurd (n (same_number o k t)) | inr f ↦ rw f refl ]

-- the new values at which the order has its levels are the new values
pub by_order : (order : List ℕ) (ws : List ℤ) → NoTwice order → length ws ≡ length order → map (λ l. value_for l order ws) order ≡ ws
by_order [] [] d e = refl
by_order [] (w ∷ ws) d e = absurd (omega (arith, e))
by_order (o ∷ os) [] d e = absurd (omega (arith, e))
by_order (o ∷ os) (w ∷ ws) d e =
    ap (λ (a : ℤ). a ∷ map (λ l. value_for l (o ∷ os) (w ∷ ws)) os) (here o w (value_for o os ws))
    ∙ ap (λ (l : List ℤ). w ∷ l) (map-alike (λ l. value_for l (o ∷ os) (w ∷ ws)) (λ l. value_for l os ws) os (λ k a. passed o k w (value_for k os ws) (λ i. d.0 (subst (λ (j : ℕ). IsIn j os) (sym i) a))) ∙ by_order os ws d.1 (omega (arith, e)))

-- at the new values, the order has an old level at its value
pub value_for-permuted : (l : ℕ) (order : List ℕ) (vs : List ℤ) → IsIn l order → value_for l order (permuted order vs) ≡ at_level l vs
value_for-permuted l [] vs h = absurd h
value_for-permuted l (o ∷ order) vs h =
    elim (cases_Bool (nat_eq o l)) [
      | inl t ↦ (let e : o ≡ l = same_number o l t in rw t (ap (λ (k : ℕ). at_level k vs) e))
      | inr f ↦ rw f (elim h [
        | inl e ↦ absurd (let g : o ≡ l = sym e in grind (arith, nat_tests, f, g))
        | inr i ↦ value_for-permuted l order vs i
      ])
    ]

unpermuted-length : (order : List ℕ) (ws : List ℤ) (l : ℕ) (rest : List ℕ) → length (unpermuted order ws l rest) ≡ length rest
unpermuted-length order ws l [] = refl
unpermuted-length order ws l (o ∷ rest) = ap (λ (n : ℕ). suc n) (unpermuted-length order ws (suc l) rest)

unpermuted-level : (order : List ℕ) (ws : List ℤ) (l : ℕ) (rest : List ℕ) (k : ℕ) → k < length rest → at_level (suc k) (unpermuted order ws l rest) ≡ value_for (l + k) order ws
unpermuted-level order ws l [] k h = absurd (omega (arith, h))
unpermuted-level order ws l (o ∷ rest) zero h = let e : l ≡ l + 0 = omega arith in ap (λ (n : ℕ). value_for n order ws) e
unpermuted-level order ws l (o ∷ rest) (suc k) h = let e : suc l + k ≡ l + suc k = omega arith in unpermuted-level order ws (suc l) rest k (omega (arith, h)) ∙ ap (λ (n : ℕ). value_for n order ws) e

at_order : (order : List ℕ) (ws : List ℤ) (l : ℕ) → 0 < l → l ≤ length order → at_level l (unpermuted order ws 1 order) ≡ value_for l order ws
at_order order ws zero h k = absurd (omega (arith, h))
at_order order ws (suc l) h k = let e : 1 + l ≡ suc l = omega arith in unpermuted-level order ws 1 order l (omega (arith, k)) ∙ ap (λ (n : ℕ). value_for n order ws) e

-- each old instance has a new one
pub permuted-back : (order : List ℕ) (vs : List ℤ) → IsPermutation order → length vs ≡ length order → unpermuted order (permuted order vs) 1 order ≡ vs
permuted-back order vs p e =
    let n = unpermuted-length order (permuted order vs) 1 order in
    by_levels (unpermuted order (permuted order vs) 1 order) vs (n ∙ sym e)
    (λ l a b. at_order order (permuted order vs) l a (subst (λ (k : ℕ). l ≤ k) n b) ∙ value_for-permuted l order vs (p.all l a (subst (λ (k : ℕ). l ≤ k) n b)))

-- and each new one an old one
pub permuted-forth : (order : List ℕ) (ws : List ℤ) → IsPermutation order → NoTwice order → length ws ≡ length order → permuted order (unpermuted order ws 1 order) ≡ ws
permuted-forth order ws p d e =
    map-alike (λ l. at_level l (unpermuted order ws 1 order)) (λ l. value_for l order ws) order (λ l a. let b = p.each l a in at_order order ws l b.0 b.1) ∙ by_order order ws d e
