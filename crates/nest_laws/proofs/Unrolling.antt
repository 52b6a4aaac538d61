-- Each value between its bounds is in one group of one piece of `unroll`, and each value in a group is between its bounds.
use Rattle.std.proofs.Common.{◌≡◌, ◌⊎◌, inl, inr, ℕ, zero, suc, List, [], ◌∷◌, refl, ap, subst, arith, ℤ, pos, negsuc, ◌+ℤ◌, ◌-ℤ◌, ◌*ℤ◌, neg_ℤ, ◌≤ℤ◌}
use Rattle.std.specs.Int.{int_div_euclid}
use Rattle.std.proofs.lemmas.Int.{ints}
use Rattle.chill_base.proofs.Ring.{not_negative_product, expand}
use Rattle.nest_tree.specs.Levels.{IsInTile}
use Rattle.nest_tree.specs.Unrolling.{Upper, MeetsUpper, MeetsUppers, Part, full, rest, IsOf, OwnRows, IsUnrolled}
use Rattle.nest_laws.proofs.Levels.{quotient_is, one_tile}

met_or_not : (a b : ℤ) → (a ≤ℤ b) ⊎ ((b +ℤ pos 1) ≤ℤ a)
met_or_not a b = grind (arith, ints)

-- each group is of some piece
part_of : (last : ℤ) (us : List Upper) → (p : Part) × IsOf p last us
part_of last [] = (full, tt)
part_of last (u ∷ us) =
    elim (met_or_not (pos (suc u.less_one) *ℤ last) u.bound) [
      | inr n ↦ (rest zero, n)
      | inl m ↦ next m (part_of last us)
    ]
  where
    next : MeetsUpper last u → (p : Part) × IsOf p last us → (p : Part) × IsOf p last (u ∷ us)
    next m (full, h) = (full, (m, h))
    next m (rest k, h) = (rest (suc k), (m, h))

-- and of one alone
one_part : (last : ℤ) (us : List Upper) (p x : Part) → IsOf p last us → IsOf x last us → p ≡ x
one_part last [] full full h k = refl
one_part last [] full (rest zero) h k = absurd k
one_part last [] full (rest (suc j)) h k = absurd k
one_part last [] (rest zero) x h k = absurd h
one_part last [] (rest (suc i)) x h k = absurd h
one_part last (u ∷ us) full full h k = refl
one_part last (u ∷ us) full (rest zero) h k = absurd (let a = h.0 in omega (arith, ints))
one_part last (u ∷ us) full (rest (suc j)) h k = let e = one_part last us full (rest j) h.1 k.1 in absurd cc
one_part last (u ∷ us) (rest zero) full h k = absurd (let a = k.0 in omega (arith, ints))
one_part last (u ∷ us) (rest (suc i)) full h k = let e = one_part last us (rest i) full h.1 k.1 in absurd cc
one_part last (u ∷ us) (rest zero) (rest zero) h k = refl
one_part last (u ∷ us) (rest zero) (rest (suc j)) h k = absurd (let a = k.0 in omega (arith, ints))
one_part last (u ∷ us) (rest (suc i)) (rest zero) h k = absurd (let a = h.0 in omega (arith, ints))
one_part last (u ∷ us) (rest (suc i)) (rest (suc j)) h k = ap after (one_part last us (rest i) (rest j) h.1 k.1)
  where
    after : Part → Part
    after full = full
    after (rest n) = rest (suc n)

-- a smaller value meets an upper row too
smaller_meets : (b : ℕ) (v l : ℤ) → v ≤ℤ l → (pos (suc b) *ℤ v) ≤ℤ (pos (suc b) *ℤ l)
smaller_meets b v l h =
    let p : pos 0 ≤ℤ (pos (suc b) *ℤ (l +ℤ neg_ℤ v)) = not_negative_product (pos (suc b)) (l +ℤ neg_ℤ v) (omega (arith, ints)) (omega (arith, ints)) in
    let r = simp expand at p in
    omega (arith, ints)

-- each value of a full group meets all upper rows
full_meets : (v l : ℤ) (us : List Upper) → v ≤ℤ l → IsOf full l us → MeetsUppers v us
full_meets v l [] h f = tt
full_meets v l (u ∷ us) h f = let s = smaller_meets u.less_one v l h in let m = f.0 in (omega (arith, ints), full_meets v l us h f.1)

module _ (low : ℤ) (factor : ℕ) (us : List Upper) where
  own_rows : (p : Part) (v : ℤ) → MeetsUppers v us → OwnRows p v us
  own_rows full v m = tt
  own_rows (rest k) v m = m

  -- each value between the bounds is in a group
  pub unrolled_some : (v : ℤ) → low ≤ℤ v → MeetsUppers v us → (p : Part) × (q r : ℤ) × IsUnrolled low (suc factor) us p q r v
  unrolled_some v h m =
      let t = int_div_euclid (v -ℤ low) (pos (suc factor)) in
      let i : IsInTile (pos (suc factor)) t (v -ℤ low) = quotient_is factor (v -ℤ low) in
      let a = i.low in
      let b = i.high in
      let w = part_of (low +ℤ ((pos (suc factor) *ℤ t) +ℤ (pos (suc factor) -ℤ pos 1))) us in (
        w.0,
        t,
        (v -ℤ low) -ℤ (pos (suc factor) *ℤ t),
        record { value = omega (arith, ints); group = not_negative (v -ℤ low) (omega (arith, ints)); from = omega (arith, ints); to = omega (arith, ints); is_of = w.1; own = own_rows w.0 v m },
      )
    where
      not_negative : (d : ℤ) → pos 0 ≤ℤ d → pos 0 ≤ℤ int_div_euclid d (pos (suc factor))
      not_negative (pos d) h = omega (arith, ints)
      not_negative (negsuc d) h = absurd (omega (arith, ints))

  -- and in one alone
  pub unrolled_one : (v : ℤ) (p x : Part) (q r s t : ℤ) → IsUnrolled low (suc factor) us p q r v → IsUnrolled low (suc factor) us x s t v → (p ≡ x) × (q ≡ s) × (r ≡ t)
  unrolled_one v p x q r s t a b =
      let e : q ≡ s = one_tile factor q s (v -ℤ low) (tile_of p q r a) (tile_of x s t b) in
      let f : r ≡ t = (let z = ap (λ (k : ℤ). pos (suc factor) *ℤ k) e in let y = a.value in let u = b.value in omega (arith, ints)) in (
        one_part (low +ℤ ((pos (suc factor) *ℤ s) +ℤ (pos (suc factor) -ℤ pos 1))) us p x (subst (λ (k : ℤ). IsOf p (low +ℤ ((pos (suc factor) *ℤ k) +ℤ (pos (suc factor) -ℤ pos 1))) us) e a.is_of) b.is_of,
        e,
        f,
      )
    where
      tile_of : (p : Part) (q r : ℤ) → IsUnrolled low (suc factor) us p q r v → IsInTile (pos (suc factor)) q (v -ℤ low)
      tile_of p q r h = let y = h.value in let f = h.from in let l = h.to in record { low = omega (arith, ints); high = omega (arith, ints) }

  -- each value in a group is between the bounds, so the rows that go are met
  pub unrolled_within : (v : ℤ) (p : Part) (q r : ℤ) → IsUnrolled low (suc factor) us p q r v → (low ≤ℤ v) × MeetsUppers v us
  unrolled_within v p q r h = (
    (let a = not_negative_product (pos (suc factor)) q (omega (arith, ints)) h.group in let b = h.value in let c = h.from in omega (arith, ints)),
    uppers p h,
  )
    where
      uppers : (p : Part) → IsUnrolled low (suc factor) us p q r v → MeetsUppers v us
      uppers full h = full_meets v (low +ℤ ((pos (suc factor) *ℤ q) +ℤ (pos (suc factor) -ℤ pos 1))) us (let b = h.value in let c = h.to in omega (arith, ints)) h.is_of
      uppers (rest k) h = h.own
