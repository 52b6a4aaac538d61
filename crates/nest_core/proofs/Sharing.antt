-- The steps of the loops that compare positions.
use Rattle.std.proofs.Common.{◌≡◌, ℕ, zero, suc, arith, ◌<◌, ◌≤◌, ◌+◌, Bool, true, false, nat_eq, List, [], ◌∷◌, drop, length, get_or, refl, ◌∙◌, eq-eqb, ◌⊎◌, inl, inr, min, ◌-◌}
use Rattle.std.specs.Prelude.{nat_lt}
use Rattle.std.proofs.lemmas.Bool.{cases_lt}
use Rattle.std.proofs.lemmas.Bool.Decides.{nat_tests}
use Rattle.std.proofs.lemmas.Bool.{eqb-true, cond_both}
use Rattle.nest_core.specs.Order.{is_earlier}
use Rattle.nest_tree.specs.Carriers.{shared}

not-equal : (a b : ℕ) → (a ≡ b → ⊥) → nat_eq a b ≡ false
not-equal a b h = of (nat_eq a b) refl where
  of : (t : Bool) → nat_eq a b ≡ t → nat_eq a b ≡ false
  of true e = absurd (h (eqb-true a b e))
  of false e = e

pub shared-more : (i : ℕ) (ps qs : List ℕ) → i + 1 < length ps → i + 1 < length qs → get_or ps i 0 ≡ get_or qs i 0 → shared (drop i ps) (drop i qs) ≡ suc (shared (drop (suc i) ps) (drop (suc i) qs))
shared-more i [] qs l m e = absurd (omega (arith, l))
shared-more i (p ∷ ps) [] l m e = absurd (omega (arith, m))
shared-more zero (p ∷ []) (q ∷ qs) l m e = absurd (omega (arith, l))
shared-more zero (p ∷ p' ∷ ps) (q ∷ []) l m e = absurd (omega (arith, m))
shared-more zero (p ∷ p' ∷ ps) (q ∷ q' ∷ qs) l m e = rw (eq-eqb p q e) refl
shared-more (suc i) (p ∷ ps) (q ∷ qs) l m e = shared-more i ps qs (omega (arith, l)) (omega (arith, m)) e

pub shared-not : (i : ℕ) (ps qs : List ℕ) → (get_or ps i 0 ≡ get_or qs i 0 → ⊥) → shared (drop i ps) (drop i qs) ≡ 0
shared-not zero [] qs h = refl
shared-not (suc i) [] qs h = refl
shared-not zero (p ∷ []) qs h = refl
shared-not zero (p ∷ p' ∷ ps) [] h = refl
shared-not zero (p ∷ p' ∷ ps) (q ∷ []) h = refl
shared-not zero (p ∷ p' ∷ ps) (q ∷ q' ∷ qs) h = rw (not-equal p q h) refl
shared-not (suc i) (p ∷ ps) [] h = of (drop i ps) where
  of : (xs : List ℕ) → shared xs [] ≡ 0
  of [] = refl
  of (x ∷ []) = refl
  of (x ∷ y ∷ xs) = refl
shared-not (suc i) (p ∷ ps) (q ∷ qs) h = shared-not i ps qs h

shared-none : (xs : List ℕ) → shared xs [] ≡ 0
shared-none [] = refl
shared-none (x ∷ []) = refl
shared-none (x ∷ y ∷ xs) = refl

one_left : (i : ℕ) (ps qs : List ℕ) → (length ps ≤ i + 1) ⊎ (length qs ≤ i + 1) → shared (drop i ps) (drop i qs) ≡ 0
one_left zero [] qs l = refl
one_left (suc i) [] qs l = refl
one_left zero (p ∷ []) qs l = refl
one_left zero (p ∷ p' ∷ ps) [] l = refl
one_left zero (p ∷ p' ∷ ps) (q ∷ []) l = refl
one_left zero (p ∷ p' ∷ ps) (q ∷ q' ∷ qs) l = elim l [ inl h ↦ absurd (omega (arith, h)) | inr h ↦ absurd (omega (arith, h)) ]
one_left (suc i) (p ∷ ps) [] l = shared-none (drop i ps)
one_left (suc i) (p ∷ ps) (q ∷ qs) l = one_left i ps qs (elim l [ inl h ↦ inl (omega (arith, h)) | inr h ↦ inr (omega (arith, h)) ])

short : (a b i : ℕ) → min a b - 1 ≤ i → (a ≤ i + 1) ⊎ (b ≤ i + 1)
short a b i h = elim (cases_lt a b) [ inl l ↦ inl (omega arith) | inr l ↦ inr (omega arith) ]

pub shared-end : (i levels both w : ℕ) (ps qs : List ℕ) → levels ≡ both - 1 → both ≡ min (length ps) (length qs) → levels ≤ i → i ≤ levels → i + shared (drop i ps) (drop i qs) ≡ w → levels ≡ w
shared-end i levels both w ps qs d b l m e =
    let none = one_left i ps qs (short (length ps) (length qs) i (omega (arith, d, b, l))) in
    omega (arith, none, e, l, m)

less-suc : (a b : ℕ) → nat_lt (suc a) (suc b) ≡ nat_lt a b
less-suc a b = grind (arith, nat_tests)

zero-less : (a : ℕ) → nat_lt 0 (suc a) ≡ true
zero-less a = grind (arith, nat_tests)

less-zero : (a : ℕ) → nat_lt (suc a) 0 ≡ false
less-zero a = grind (arith, nat_tests)

pub earlier-end : (i both : ℕ) (w : Bool) (ps qs : List ℕ) → both ≡ min (length ps) (length qs) → both ≤ i → i ≤ both → is_earlier (drop i ps) (drop i qs) ≡ w → nat_lt (length ps) (length qs) ≡ w
earlier-end zero both w [] [] b l m e = e
earlier-end zero both w [] (q ∷ qs) b l m e = zero-less (length qs) ∙ e
earlier-end zero both w (p ∷ ps) [] b l m e = less-zero (length ps) ∙ e
earlier-end zero both w (p ∷ ps) (q ∷ qs) b l m e = absurd (omega (arith, b, l))
earlier-end (suc i) both w [] qs b l m e = absurd (omega (arith, b, m))
earlier-end (suc i) both w (p ∷ ps) [] b l m e = absurd (omega (arith, b, m))
earlier-end (suc i) both w (p ∷ ps) (q ∷ qs) b l m e = less-suc (length ps) (length qs) ∙ earlier-end i (both - 1) w ps qs (omega (arith, b)) (omega (arith, l)) (omega (arith, b, m)) e

-- fewer loops are shared than either statement has positions
pub shared-first_below : (ps qs : List ℕ) → 0 < length ps → shared ps qs < length ps
shared-first_below [] qs h = absurd (omega (arith, h))
shared-first_below (p ∷ []) qs h = omega arith
shared-first_below (p ∷ p' ∷ ps) [] h = omega arith
shared-first_below (p ∷ p' ∷ ps) (q ∷ []) h = omega arith
shared-first_below (p ∷ p' ∷ ps) (q ∷ q' ∷ qs) h =
    cond_both (nat_eq p q) (suc (shared (p' ∷ ps) (q' ∷ qs))) 0 (λ n. n < suc (suc (length ps)))
    (λ e. (let more = shared-first_below (p' ∷ ps) (q' ∷ qs) (omega arith) in omega (arith, more))) (λ e. omega arith)

pub shared-second_below : (ps qs : List ℕ) → 0 < length qs → shared ps qs < length qs
shared-second_below [] qs h = h
shared-second_below (p ∷ []) qs h = h
shared-second_below (p ∷ p' ∷ ps) [] h = h
shared-second_below (p ∷ p' ∷ ps) (q ∷ []) h = omega arith
shared-second_below (p ∷ p' ∷ ps) (q ∷ q' ∷ qs) h =
    cond_both (nat_eq p q) (suc (shared (p' ∷ ps) (q' ∷ qs))) 0 (λ n. n < suc (suc (length qs)))
    (λ e. (let more = shared-second_below (p' ∷ ps) (q' ∷ qs) (omega arith) in omega (arith, more))) (λ e. omega arith)
