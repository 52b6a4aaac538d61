-- The steps of the loops over an order, and over levels.
use Rattle.std.proofs.Common.{◌≡◌, ℕ, zero, suc, arith, ◌<◌, ◌+◌, Bool, true, false, ◌&&◌, ◌||◌, List, [], ◌∷◌, drop, length, refl, add-one, subst, min, take, inl, inr, nat_lt}
use Rattle.std.proofs.lemmas.List.{take_min}
use Rattle.std.proofs.lemmas.Bool.{cases_lt}
use Rattle.std.proofs.lemmas.Bool.Decides.{nat_tests}
use Rattle.affine_moves.specs.Moves.{holds_from, holds_next, any_below}

drop_some : {A : Type 0} (xs : List A) (i : ℕ) → i < length xs → (x : A) × (drop i xs ≡ x ∷ drop (suc i) xs)
drop_some [] i l = absurd (omega (arith, l))
drop_some (x ∷ xs) zero l = (x, refl)
drop_some (x ∷ xs) (suc i) l = drop_some xs i (omega (arith, l))

module _ (order rest : List ℕ) (t : ℕ) (w : Bool) (l : t < length rest) where
  pub holds-more : true ≡ holds_next order t → holds_from order t (drop t rest) ≡ w → holds_from order (t + 1) (drop (t + 1) rest) ≡ w
  holds-more e m = let s = drop_some rest t l in rw (add-one t) (rw (s.1, ← e) at m)

  pub holds-not : false ≡ holds_next order t → holds_from order t (drop t rest) ≡ w → false ≡ w
  holds-not e m = let s = drop_some rest t l in rw (s.1, ← e) at m

or-right : (a b : Bool) → true ≡ b → true ≡ (a || b)
or-right true b e = refl
or-right false b e = e

or-left : (a b : Bool) → true ≡ a → true ≡ (a || b)
or-left true b e = refl
or-left false b e = absurd cc

-- a number that passes is found
pub any-here : (p : ℕ → Bool) (d i : ℕ) → i < d → true ≡ p i → true ≡ any_below p d
any-here p zero i l e = absurd (omega (arith, l))
any-here p (suc d) i l e =
    elim (cases_lt i d) [
      | inl h ↦ or-left (any_below p d) (p d) (any-here p d i h e)
      | inr h ↦ (let same : i ≡ d = omega (arith, l, h) in or-right (any_below p d) (p d) (subst (λ (k : ℕ). true ≡ p k) same e))
    ]

pub none-more : (p : ℕ → Bool) (i : ℕ) → false ≡ p i → any_below p i ≡ false → any_below p (i + 1) ≡ false
none-more p i e m = rw (add-one i, m, ← e) refl

pub take-end : (n b : ℕ) (order : List ℕ) → n ≡ min b (length order) → take n order ≡ take b order
take-end n b order e = rw e (take_min b order)

not-zero : (n : ℕ) → nat_lt 0 (suc n) ≡ true
not-zero n = grind (arith, nat_tests)

pub and-here : (own : ℕ) (b : Bool) → (own ≡ 0 → ⊥) → true ≡ b → true ≡ (nat_lt 0 own && b)
and-here zero b h e = absurd (h refl)
and-here (suc n) b h e = rw (not-zero n) e
