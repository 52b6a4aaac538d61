-- A number that passes a test is found.
use Rattle.std.proofs.Common.{◌≡◌, ℕ, zero, suc, arith, ◌<◌, ◌≤◌, Bool, true, false, ◌&&◌, ◌||◌, nat_le, refl, subst, inl, inr, le-leb}
use Rattle.std.proofs.lemmas.Bool.{cases_lt}
use Rattle.datacopy.specs.Levels.{any_below}

or-right : (a b : Bool) → true ≡ b → true ≡ (a || b)
or-right true b e = refl
or-right false b e = e

or-left : (a b : Bool) → true ≡ a → true ≡ (a || b)
or-left true b e = refl
or-left false b e = absurd cc

pub any-here : (p : ℕ → Bool) (d i : ℕ) → i < d → true ≡ p i → true ≡ any_below p d
any-here p zero i l e = absurd (omega (arith, l))
any-here p (suc d) i l e =
    elim (cases_lt i d) [
      | inl h ↦ or-left (any_below p d) (p d) (any-here p d i h e)
      | inr h ↦ (let same : i ≡ d = omega (arith, l, h) in or-right (any_below p d) (p d) (subst (λ (k : ℕ). true ≡ p k) same e))
    ]

-- one from a place on that passes
pub from-here : (p : ℕ → Bool) (d place i : ℕ) → i < d → place ≤ i → true ≡ p i → true ≡ any_below (λ q. nat_le place q && p q) d
from-here p d place i l h e = any-here (λ q. nat_le place q && p q) d i l (rw (le-leb place i h) e)
