-- What holds of all numbers of a range, and of all things of two lists.
use Rattle.std.proofs.Common.{◌≡◌, ℕ, zero, suc, arith, ◌<◌, ◌+◌, Bool, true, false, ◌&&◌, refl, ap, add-one}
use Rattle.std.specs.List.{list_all, range_with_len}
use Rattle.std.specs.Prelude.{Option, List, [], ◌∷◌, length}
use Rattle.int_rows.specs.declared.row.Aff.{Aff}
use Rattle.nest_systems.specs.Choosing.{are_equal, are_all_equal}

and-false : (b : Bool) → b && false ≡ false
and-false true = refl
and-false false = refl

both : (x y : Bool) → x && y ≡ true → (x ≡ true) × (y ≡ true)
both true true e = (refl, refl)
both true false e = absurd cc
both false y e = absurd cc

all-more : (p : ℕ → Bool) (a n : ℕ) → list_all p (range_with_len a n) ≡ true → p (a + n) ≡ true → list_all p (range_with_len a (suc n)) ≡ true
all-more p a zero e h = let k : a + zero ≡ a = omega arith in rw (rw k at h) refl
all-more p a (suc n) e h =
    let k : a + suc n ≡ a + 1 + n = omega arith in
    let v = both (p a) (list_all p (range_with_len (a + 1) n)) e in
    rw (v.0, all-more p (a + 1) n v.1 (rw k at h)) refl

all-false : (p : ℕ → Bool) (a n i : ℕ) → i < n → p (a + i) ≡ false → list_all p (range_with_len a n) ≡ false
all-false p a zero i l h = absurd (omega (arith, l))
all-false p a (suc n) zero l h = let k : a + zero ≡ a = omega arith in rw (rw k at h) refl
all-false p a (suc n) (suc i) l h =
    let k : a + suc i ≡ a + 1 + i = omega arith in
    rw (all-false p (a + 1) n i (omega (arith, l)) (rw k at h)) (and-false (p a))

pub range-more : (p : ℕ → Bool) (n : ℕ) → list_all p (range_with_len 0 n) ≡ true → p n ≡ true → list_all p (range_with_len 0 (n + 1)) ≡ true
range-more p n e h = let k : 0 + n ≡ n = omega arith in rw (add-one n) (all-more p 0 n e (rw k h))

pub range-false : (p : ℕ → Bool) (n i : ℕ) → i < n → p i ≡ false → list_all p (range_with_len 0 n) ≡ false
range-false p n i l h = let k : 0 + i ≡ i = omega arith in all-false p 0 n i l (rw k h)

-- lists of unlike lengths aren't equal one by one
pub unlike : (first : ℕ) (same : List (Option ℕ)) (xs ys : List Aff) → (length xs ≡ length ys → ⊥) → are_all_equal first same xs ys ≡ false
unlike first same [] [] h = absurd (h refl)
unlike first same [] (y ∷ ys) h = refl
unlike first same (x ∷ xs) [] h = refl
unlike first same (x ∷ xs) (y ∷ ys) h = rw (unlike first same xs ys (λ e. h (ap suc e))) (and-false (are_equal first same x y))
