-- The loops around statements, by the statements' positions.
use Rattle.std.specs.Prelude.{ℕ, cond, nat_eq, List, [], ◌∷◌, ◌++◌}

-- what stands one after another, each in front of the others; a loop has its child position
pub data Loops (A : Type 0) : Type 0 where
  end : Loops A
  leaf : A → Loops A → Loops A
  loop : ℕ → Loops A → Loops A → Loops A

-- the things in the leaves, in order
abbrev pub leaves : {A : Type 0} → Loops A → List A
leaves end = []
leaves (leaf a rest) = a ∷ leaves rest
leaves (loop p body rest) = leaves body ++ leaves rest

-- a thing with its positions in front of others: in the first loop where this has its position, or else in a loop of its own
abbrev pub in_front : {A : Type 0} → A → List ℕ → Loops A → Loops A
in_front a [] rest = leaf a rest
in_front a (p ∷ []) rest = leaf a rest
in_front a (p ∷ q ∷ ps) end = loop p (in_front a (q ∷ ps) end) end
in_front a (p ∷ q ∷ ps) (leaf b rest) = loop p (in_front a (q ∷ ps) end) (leaf b rest)
in_front a (p ∷ q ∷ ps) (loop r body rest) = cond (nat_eq p r)
    (loop r (in_front a (q ∷ ps) body) rest)
    (loop p (in_front a (q ∷ ps) end) (loop r body rest))

abbrev pub loops_of : {A : Type 0} → (A → List ℕ) → List A → Loops A
loops_of positions [] = end
loops_of positions (a ∷ more) = in_front a (positions a) (loops_of positions more)
