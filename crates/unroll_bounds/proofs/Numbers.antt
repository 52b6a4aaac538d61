-- Numbers within the limit are exact, and what they are at each place of a form.
use Rattle.std.proofs.Common.{◌≡◌, ℕ, zero, suc, ◌+◌, ◌-◌, ◌≤◌, ◌<◌, ◌^◌, Bool, true, false, cond, List, [], ◌∷◌, ◌++◌, length, refl, sym, ◌∙◌, ap, arith, ℤ, pos, ◌+ℤ◌, ◌-ℤ◌, ◌*ℤ◌, unsigned_abs}
use Rattle.std.specs.Prelude.{Some, None, replicate}
use Rattle.std.proofs.lemmas.Int.{ints}
use lib.IntN.{*ℤ-zero, zero-*ℤ}
use Rattle.chill_base.proofs.Ring.{sum_times}
use Rattle.nest_tree.specs.Forms.{coef, zeros, variable}
use Rattle.nest_tree.specs.Pieces.{IsLike}
use Rattle.nest_core.specs.Numbers.{is_small, judged_number}
use Rattle.affine_moves.specs.Change.{padded, unit}
use Rattle.unroll.specs.Groups.{or_past, sum, difference, with_group, negated, plus, plus_multiple, plus_multiples}

-- ---- exact numbers
past : unsigned_abs (pos (2 ^ 126 + 1)) ≤ 2 ^ 126 → ⊥
past h = omega (arith, h)

judged-exact : (z : ℤ) → unsigned_abs (or_past (judged_number z)) ≤ 2 ^ 126 → or_past (judged_number z) ≡ z
judged-exact z h = by (is_small z) h
  where
    by : (t : Bool) → unsigned_abs (or_past (cond t (Some z) None)) ≤ 2 ^ 126 → or_past (cond t (Some z) None) ≡ z
    by true h = refl
    by false h = absurd (past h)

pub difference-exact : (a b : ℤ) → unsigned_abs (difference a b) ≤ 2 ^ 126 → difference a b ≡ a -ℤ b
unfolding difference
difference-exact a b h = judged-exact (a -ℤ b) h

pub multiple-exact : (s t z : ℤ) → unsigned_abs (plus_multiple s t z) ≤ 2 ^ 126 → plus_multiple s t z ≡ s +ℤ (t *ℤ z)
unfolding plus_multiple sum
multiple-exact s t z h = by (is_small (t *ℤ z)) h
  where
    by : (c : Bool) → unsigned_abs (plus s (cond c (Some (t *ℤ z)) None)) ≤ 2 ^ 126 → plus s (cond c (Some (t *ℤ z)) None) ≡ s +ℤ (t *ℤ z)
    by true h = judged-exact (s +ℤ (t *ℤ z)) h
    by false h = absurd (past h)

-- ---- at each place
pub negated-coef : (zs : List ℤ) (j : ℕ) → unsigned_abs (coef j (negated zs)) ≤ 2 ^ 126 → coef j (negated zs) ≡ pos 0 -ℤ coef j zs
negated-coef [] j h = refl
negated-coef (z ∷ zs) zero h = difference-exact (pos 0) z h
negated-coef (z ∷ zs) (suc j) h = negated-coef zs j h

pub group_here : (zs : List ℤ) (at : ℕ) (g : ℤ) → at < length zs → coef at (with_group zs at (g ∷ [])) ≡ g
unfolding with_group
group_here [] at g h = absurd (omega (arith, h))
group_here (z ∷ zs) zero g h = refl
group_here (z ∷ zs) (suc at) g h = group_here zs at g (omega (arith, h))

pub group_else : (zs : List ℤ) (at : ℕ) (g : ℤ) (j : ℕ) → at < length zs → (j ≡ at → ⊥) → coef j (with_group zs at (g ∷ [])) ≡ coef j zs
unfolding with_group
group_else [] at g j h n = absurd (omega (arith, h))
group_else (z ∷ zs) zero g zero h n = absurd (n refl)
group_else (z ∷ zs) zero g (suc j) h n = refl
group_else (z ∷ zs) (suc at) g zero h n = refl
group_else (z ∷ zs) (suc at) g (suc j) h n = group_else zs at g j (omega (arith, h)) (λ e. n (ap (λ (k : ℕ). suc k) e))

pub group-length : (zs : List ℤ) (at : ℕ) (g : ℤ) → at < length zs → length (with_group zs at (g ∷ [])) ≡ length zs
unfolding with_group
group-length [] at g h = absurd (omega (arith, h))
group-length (z ∷ zs) zero g h = refl
group-length (z ∷ zs) (suc at) g h = ap (λ (k : ℕ). suc k) (group-length zs at g (omega (arith, h)))

pub multiples-coef : (ss : List ℤ) (t : ℤ) (zs : List ℤ) (j : ℕ) → length ss ≡ length zs → unsigned_abs (coef j (plus_multiples ss t zs)) ≤ 2 ^ 126 → coef j (plus_multiples ss t zs) ≡ coef j ss +ℤ (t *ℤ coef j zs)
multiples-coef [] t [] j e h = let z = *ℤ-zero t in omega (arith, ints)
multiples-coef [] t (z ∷ zs) j e h = absurd (omega (arith, e))
multiples-coef (s ∷ ss) t [] j e h = absurd (omega (arith, e))
multiples-coef (s ∷ ss) t (z ∷ zs) zero e h = multiple-exact s t z h
multiples-coef (s ∷ ss) t (z ∷ zs) (suc j) e h = multiples-coef ss t zs j (omega (arith, e)) h

-- ---- one variable
none_behind : (k j : ℕ) → coef j (replicate k (pos 0)) ≡ pos 0
none_behind zero j = refl
none_behind (suc k) zero = refl
none_behind (suc k) (suc j) = none_behind k j

one_at : (v k j : ℕ) → coef j (replicate v (pos 0) ++ (pos 1 ∷ []) ++ replicate k (pos 0)) ≡ coef j (zeros v (pos 1 ∷ []))
one_at zero k zero = refl
one_at zero k (suc j) = none_behind k j
one_at (suc v) k zero = refl
one_at (suc v) k (suc j) = one_at v k j

pub like_unit : (vars v : ℕ) → IsLike (unit vars v) (variable v)
unfolding unit padded
like_unit vars v = record { coefs = λ j. one_at v (vars - (v + 1)) j; constant = refl }

pub coef-elsewhere : (v j : ℕ) → (j ≡ v → ⊥) → coef j (zeros v (pos 1 ∷ [])) ≡ pos 0
coef-elsewhere zero zero n = absurd (n refl)
coef-elsewhere zero (suc j) n = refl
coef-elsewhere (suc v) zero n = refl
coef-elsewhere (suc v) (suc j) n = coef-elsewhere v j (λ e. n (ap (λ (k : ℕ). suc k) e))

-- products with a number and with its negative cancel
pub cancel : (t k v : ℤ) → (t +ℤ k) ≡ pos 0 → ((t *ℤ v) +ℤ (k *ℤ v)) ≡ pos 0
cancel t k v e = sym (sum_times t k v) ∙ ap (λ (z : ℤ). z *ℤ v) e ∙ zero-*ℤ v
