-- The loops that two statements share, and what carries the order of two instances.
use Rattle.std.specs.Prelude.{◌≡◌, ℕ, zero, suc, ◌≤◌, ◌<◌, List, ◌∷◌, ℤ, ◌<ℤ◌, cond, nat_eq}
use Rattle.nest_tree.specs.Places.{IsTextBefore}

-- how many loops two statements share, by their positions: as long as these are equal, and both statements go deeper
abbrev pub shared : List ℕ → List ℕ → ℕ
shared (p ∷ p' ∷ ps) (q ∷ q' ∷ qs) = cond (nat_eq p q) (suc (shared (p' ∷ ps) (q' ∷ qs))) 0
shared _ _ = 0

-- equal at the first n levels
abbrev pub AgreeOn : ℕ → List ℤ → List ℤ → Type 0
AgreeOn zero vs ws = Unit
AgreeOn (suc n) (v ∷ vs) (w ∷ ws) = (v ≡ w) × AgreeOn n vs ws
AgreeOn (suc n) _ _ = ⊥

-- smaller at a level, counted from 1, and equal at all levels before it
abbrev pub IsSmallerAt : ℕ → List ℤ → List ℤ → Type 0
IsSmallerAt (suc zero) (v ∷ vs) (w ∷ ws) = v <ℤ w
IsSmallerAt (suc (suc l)) (v ∷ vs) (w ∷ ws) = (v ≡ w) × IsSmallerAt (suc l) vs ws
IsSmallerAt _ _ _ = ⊥

-- what may carry an order: a shared loop, counted from 1, or the text
pub data Carrier : Type 0 where
  loop : ℕ → Carrier
  text : Carrier

-- the instance of the first statement at vs is before that of the second at ws, by this carrier
abbrev pub IsCarried : Carrier → List ℕ → List ℤ → List ℕ → List ℤ → Type 0
IsCarried (loop l) ps vs qs ws = (l ≤ shared ps qs) × IsSmallerAt l vs ws
IsCarried text ps vs qs ws = AgreeOn (shared ps qs) vs ws × IsTextBefore ps qs

-- a carrier that can carry an order of two statements: a shared loop, or the text where the first stands before the second
abbrev pub IsListed : Carrier → List ℕ → List ℕ → Type 0
IsListed (loop l) ps qs = (0 < l) × (l ≤ shared ps qs)
IsListed text ps qs = IsTextBefore ps qs
