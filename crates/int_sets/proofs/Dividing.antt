-- Divisors of 0 and 1 leave a row as it is, and nothing but 1 divides 1.
use Rattle.std.proofs.Common.{◌≡◌, ℕ, zero, suc, ◌≤◌, ◌/◌, ℤ, pos, negsuc, neg_ℤ, List, [], ◌∷◌, map, fold, unsigned_abs, arith, refl, ap, ◌∙◌}
use Rattle.std.specs.Prelude.{int_div}
use native.Mathlib.Nat.{le_of_dvd}
use Rattle.int_rows.specs.Gcd.{gcd}
use Rattle.int_rows.specs.Elimination.{divided_by}
use Rattle.int_rows.specs.declared.row.Row.{Row}
use Rattle.int_rows.proofs.GcdLaws.{gcd_is, gcd-some}

one-gcd : (a : ℕ) → gcd 1 a ≡ 1
unfolding gcd
one-gcd zero = refl
one-gcd (suc a) =
    let top : gcd 1 (suc a) ≤ 1 = le_of_dvd (omega arith) (gcd_is 1 (suc a)).0 in
    let some = gcd-some 1 (suc a) (omega arith) in
    omega (arith, top, some)

pub one-fold : (zs : List ℤ) → fold (λ g z. gcd g (unsigned_abs z)) 1 zs ≡ 1
one-fold [] = refl
one-fold (z ∷ zs) = ap (λ (n : ℕ). fold (λ g z. gcd g (unsigned_abs z)) n zs) (one-gcd (unsigned_abs z)) ∙ one-fold zs

whole : (z : ℤ) → int_div z (pos 1) ≡ z
whole (pos a) = let e : a / 1 ≡ a = omega arith in ap pos e
whole (negsuc a) = let e : suc a / 1 ≡ suc a = omega arith in ap (λ (k : ℕ). neg_ℤ (pos k)) e

map-whole : (zs : List ℤ) → map (λ z. int_div z (pos 1)) zs ≡ zs
map-whole [] = refl
map-whole (z ∷ zs) = λ i. whole z i ∷ map-whole zs i

pub divided-few : (g : ℕ) (r : Row) → g ≤ 1 → divided_by g r ≡ r
divided-few zero r h = refl
divided-few (suc zero) r h = λ i. record { equal = r.equal; form = record { coefs = map-whole r.form.coefs i; constant = whole r.form.constant i } }
divided-few (suc (suc g)) r h = absurd (omega arith)
