-- The bytes of a piece, one by one.
use Rattle.std.proofs.Common.{◌≡◌, ℕ, zero, suc, ◌+◌, ◌<◌, ◌≤◌, ◌++◌, ◌∷◌, List, [], drop, drop-cons, length, get_or, refl, sym, ap, ◌∙◌, arith}

pub next_byte : (l : List ℕ) (i : ℕ) (more : List ℕ) → i < length l → drop i l ++ more ≡ get_or l i 0 ∷ (drop (i + 1) l ++ more)
next_byte l i more lt = ap (λ (x : List ℕ). x ++ more) (drop-cons l i 0 lt) ∙ (let up : suc i ≡ i + 1 = omega arith in ap (λ (n : ℕ). get_or l i 0 ∷ (drop n l ++ more)) up)

past : (l : List ℕ) (i : ℕ) → length l ≤ i → drop i l ≡ []
past [] zero h = refl
past [] (suc i) h = refl
past (x ∷ l) zero h = absurd (omega (arith, h))
past (x ∷ l) (suc i) h = past l i (omega (arith, h))

pub no_byte : (l : List ℕ) (i : ℕ) (more : List ℕ) → length l ≤ i → drop i l ++ more ≡ more
no_byte l i more h = ap (λ (x : List ℕ). x ++ more) (past l i h)
