-- What `gcd` and `gcd_of` compute.
use Rattle.std.proofs.Common.{◌≡◌, ℕ, zero, suc, ◌<◌, ◌≤◌, ◌%◌, ◌/◌, List, [], ◌∷◌, ℤ, pos, negsuc, neg_ℤ, ◌*ℤ◌, arith, refl, ap, ◌∙◌, fold, true}
use Rattle.std.specs.Prelude.{unsigned_abs, int_div, nat_le}
use Rattle.std.specs.Int.{IsGcd, ◌∣◌}
use Rattle.std.specs.List.{AllByRecursion, list_all}
use Rattle.std.proofs.lemmas.Bool.{and_parts, leb-true}
use Rattle.std.proofs.lemmas.Nat.Gcd.{IsGcd-from_zero, IsGcd-from_mod}
use native.Mathlib.Nat.{pos_of_dvd_of_pos, le_of_dvd, dvd_refl, dvd_trans, div-mul_cancel}
use Rattle.chill_base.proofs.Ring.{neg_times}
use Rattle.int_rows.specs.Gcd.{gcd_steps, gcd, gcd_of}

steps_is : (fuel a b : ℕ) → b ≤ fuel → IsGcd a b (gcd_steps fuel a b)
steps_is zero a b h = IsGcd-from_zero a b (omega arith)
steps_is (suc fuel) a zero h = IsGcd-from_zero a zero refl
steps_is (suc fuel) a (suc b) h = IsGcd-from_mod a (suc b) _ (steps_is fuel (suc b) (a % suc b) (omega arith))

pub gcd_is : (a b : ℕ) → IsGcd a b (gcd a b)
unfolding gcd
gcd_is a b = steps_is b a b (omega arith)

-- a division without rest
pub divides_out : (z : ℤ) (g : ℕ) → g ∣ unsigned_abs z → int_div z (pos g) *ℤ pos g ≡ z
divides_out (pos a) g d = ap pos (div-mul_cancel g d)
divides_out (negsuc a) g d = neg_times (pos (suc a / g)) (pos g) ∙ ap (λ (k : ℕ). neg_ℤ (pos k)) (div-mul_cancel g d)

divides_all : (zs : List ℤ) (g : ℕ) → (fold (λ h z. gcd h (unsigned_abs z)) g zs ∣ g) × AllByRecursion (λ z. fold (λ h z. gcd h (unsigned_abs z)) g zs ∣ unsigned_abs z) zs
divides_all [] g = (dvd_refl g, tt)
divides_all (z ∷ zs) g =
    let here = gcd_is g (unsigned_abs z) in
    let more = divides_all zs (gcd g (unsigned_abs z)) in
    (dvd_trans _ more.0 here.0, (dvd_trans _ more.0 here.1, more.1))

pub gcd_of-divides : (zs : List ℤ) → AllByRecursion (λ z. gcd_of zs ∣ unsigned_abs z) zs
unfolding gcd_of
gcd_of-divides zs = (divides_all zs 0).1

gcd_bound : (a b top : ℕ) → a ≤ top → b ≤ top → gcd a b ≤ top
unfolding gcd
gcd_bound a zero top p q = p
gcd_bound a (suc b) top p q = let h : gcd_steps (suc b) a (suc b) ≤ suc b = le_of_dvd (omega arith) (steps_is (suc b) a (suc b) (omega arith)).1 in omega arith

fold_bound : (zs : List ℤ) (g top : ℕ) → g ≤ top → list_all (λ z. nat_le (unsigned_abs z) top) zs ≡ true → fold (λ h z. gcd h (unsigned_abs z)) g zs ≤ top
fold_bound [] g top p h = p
fold_bound (z ∷ zs) g top p h =
    let parts = and_parts (nat_le (unsigned_abs z) top) _ h in
    fold_bound zs (gcd g (unsigned_abs z)) top (gcd_bound g (unsigned_abs z) top p (leb-true _ _ parts.0)) parts.1

-- a greatest common divisor is no greater than the numbers
pub gcd_of-le : (zs : List ℤ) (top : ℕ) → list_all (λ z. nat_le (unsigned_abs z) top) zs ≡ true → gcd_of zs ≤ top
unfolding gcd_of
gcd_of-le zs top h = fold_bound zs 0 top (omega arith) h

pub gcd-some : (a b : ℕ) → 0 < b → 0 < gcd a b
gcd-some a b h = pos_of_dvd_of_pos (gcd_is a b).1 h

pub gcd-le : (a b : ℕ) → 0 < b → gcd a b ≤ b
gcd-le a b h = le_of_dvd h (gcd_is a b).1

pub size-some : (c : ℤ) → (c ≡ pos 0 → ⊥) → 0 < unsigned_abs c
size-some (pos zero) h = absurd (h refl)
size-some (pos (suc n)) h = omega arith
size-some (negsuc n) h = omega arith
