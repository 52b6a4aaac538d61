-- Positions and kept values tell one another.
use Rattle.std.proofs.Common.{◌≡◌, refl, sym, ap, ◌∙◌, subst, ℕ, suc, ◌+◌, ◌-◌, ◌≤◌, ◌<◌, ℤ, Bool, true, false, ◌||◌, List, [], ◌∷◌, length, if◌then◌else◌, nat_lt, arith}
use Rattle.sparse_marks.specs.Kept.{same, is_among, Placed, kept, kept_before, start, standing, position, nth}
use Rattle.sparse_marks.proofs.Values.{same_is}
use Rattle.sparse_marks.proofs.Keeping.{keeps_each, standing_inside}
use Rattle.sparse_marks.proofs.Standing.{start_next, start_rises, stands_at, nth_among, standing_nth}
use Rattle.sparse_lists.specs.Laws.{PositionsAreOneToOne, PositionsTellKeptValues}

standing_one : (v w : ℤ) (ks : List ℤ) → is_among v ks ≡ true → is_among w ks ≡ true → standing v ks ≡ standing w ks → v ≡ w
standing_one v w [] h k e = cc
standing_one v w (u ∷ ks) h k e = by _ _ refl refl h k e (standing_one v w ks)
  where
    by : (b c : Bool) → same v u ≡ b → same w u ≡ c → (b || is_among v ks) ≡ true → (c || is_among w ks) ≡ true → (if b then 0 else suc (standing v ks)) ≡ (if c then 0 else suc (standing w ks))
        → (is_among v ks ≡ true → is_among w ks ≡ true → standing v ks ≡ standing w ks → v ≡ w) → v ≡ w
    by true true x y h k e f = same_is v u x ∙ sym (same_is w u y)
    by true false x y h k e f = absurd (omega (arith, e))
    by false true x y h k e f = absurd (omega (arith, e))
    by false false x y h k e f = f h k (let q : standing v ks ≡ standing w ks = omega (arith, e) in q)

-- a position of an earlier group is smaller
earlier : (es : List Placed) (h g : ℕ) (v w : ℤ) → is_among v (kept h es) ≡ true → h < g → position h v es < position g w es
earlier es h g v w i k =
    let a : standing v (kept h es) < length (kept h es) = standing_inside v (kept h es) i in
    let b : start (suc h) es ≤ start g es = start_rises (suc h) g es k in
    omega (arith, a, b, start_next h es)

pub one_to_one : PositionsAreOneToOne
one_to_one es h g v w i j e = by _ _ refl refl
  where
    in_one : (k : ℕ) → k ≡ g → is_among v (kept k es) ≡ true → position k v es ≡ position g w es → v ≡ w
    in_one k q i e = standing_one v w (kept g es) (subst (λ k. is_among v (kept k es) ≡ true) q i) j
        (let u : position g v es ≡ position g w es = subst (λ k. position k v es ≡ position g w es) q e in let z : standing v (kept g es) ≡ standing w (kept g es) = omega (arith, u) in z)

    by : (b c : Bool) → nat_lt h g ≡ b → nat_lt g h ≡ c → (h ≡ g) × (v ≡ w)
    by true c p q = absurd (let u : position h v es < position g w es = earlier es h g v w i (grind (arith, p)) in omega (arith, u, e))
    by false true p q = absurd (let u : position g w es < position h v es = earlier es g h w v j (grind (arith, q)) in omega (arith, u, e))
    by false false p q = let k : h ≡ g = grind (arith, p, q) in (k, in_one h k i e)

pub tell_values : PositionsTellKeptValues
tell_values es g n p h k l =
    let q : ℕ = p - start g es in
    let b : q < length (kept g es) = omega (arith, k, l, start_next g es) in
    let e : start g es + q ≡ p = omega (arith, k) in
    let w : ℤ = nth (kept g es) q in
    let i : is_among w (kept g es) ≡ true = nth_among (kept g es) q b in
    let s : standing w (kept g es) ≡ q = standing_nth (kept g es) q (keeps_each g es).distinct b in
    let there : position g w es ≡ p = ap (λ x. start g es + x) s ∙ e in
    let v : nth (kept_before n es) p ≡ w = ap (nth (kept_before n es)) (sym there) ∙ (stands_at es).value g n w h i in
    record { kept = ap (λ x. is_among x (kept g es)) v ∙ i; position = ap (λ x. position g x es) v ∙ there }
