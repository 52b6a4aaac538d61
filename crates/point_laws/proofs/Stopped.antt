-- Sums that stop at the ends of 128 bits are the sums, where they are within the limit of set work.
use Rattle.std.proofs.Common.{◌≡◌, ◌⊎◌, inl, inr, ℕ, ◌+◌, ◌-◌, ◌≤◌, ◌^◌, true, min, ap, subst, arith, ℤ, pos, negsuc, ◌≤ℤ◌}
use Rattle.std.specs.Int.{w128, saturate_signed}
use Rattle.std.proofs.lemmas.Int.{ints}
use Rattle.std.proofs.lemmas.Bool.{leb-true}
use Rattle.nest_core.specs.Numbers.{is_small}
use Rattle.point_laws.proofs.Seated.{below_or_not}

-- a little more than the limit on both sides
abbrev pub IsNear : ℤ → Type 0
IsNear z = (negsuc (2 ^ 126 + 1) ≤ℤ z) × (z ≤ℤ pos (2 ^ 126 + 2))

pub small-bounds : (z : ℤ) → is_small z ≡ true → (negsuc (2 ^ 126) ≤ℤ z) × (z ≤ℤ pos (2 ^ 126))
small-bounds (pos n) h = let l = leb-true _ _ h in (omega (arith, ints), omega (arith, ints, l))
small-bounds (negsuc n) h = let l = leb-true _ _ h in (omega (arith, ints, l), omega (arith, ints))

pub small-near : (z : ℤ) → is_small z ≡ true → IsNear z
small-near z h = let b = small-bounds z h in let x = b.0 in let y = b.1 in (omega (arith, ints, x, y), omega (arith, ints, x, y))

least_or : (n m : ℕ) → ((n ≤ m) × (min n m ≡ n)) ⊎ (min n m ≡ m)
least_or n m = elim (below_or_not m n) [ inl h ↦ inr (omega (arith, h)) | inr h ↦ inl (h, omega (arith, h)) ]

pub stopped-is : (z : ℤ) → IsNear (saturate_signed w128 z) → saturate_signed w128 z ≡ z
stopped-is (pos n) h = elim (least_or n (2 ^ 127 - 1)) [
  | inl e ↦ ap pos e.1
  | inr e ↦ absurd (let k : pos (2 ^ 127 - 1) ≤ℤ pos (2 ^ 126 + 2) = subst (λ (m : ℕ). pos m ≤ℤ pos (2 ^ 126 + 2)) e h.1 in omega (arith, ints, k))
]
stopped-is (negsuc n) h = elim (least_or n (2 ^ 127 - 1)) [
  | inl e ↦ ap negsuc e.1
  | inr e ↦ absurd (let k : negsuc (2 ^ 126 + 1) ≤ℤ negsuc (2 ^ 127 - 1) = subst (λ (m : ℕ). negsuc (2 ^ 126 + 1) ≤ℤ negsuc m) e h.0 in omega (arith, ints, k))
]
