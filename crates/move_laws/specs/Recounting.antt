-- Positions that are counted anew keep the order of statements and the loops that they share.
use Rattle.std.specs.Prelude.{◌≡◌, ℕ, ◌<◌, List, [], ◌∷◌, length, map, true}
use Rattle.nest_tree.specs.Carriers.{shared}
use Rattle.nest_tree.specs.declared.kernel.Nest.{Nest}
use Rattle.nest_core.specs.Order.{HasPositions, is_earlier, next_positions, numbered}

abbrev pub Positions : Type 0
Positions = List ℕ

-- positions behind one that stood at `old` and stands now at `new`, counted anew as the code does
abbrev pub recounted : Positions → Positions → List Positions → List Positions
recounted old new [] = []
recounted old new (p ∷ ps) = next_positions (shared old p) new (length p) ∷ recounted p (next_positions (shared old p) new (length p)) ps

-- each stands before the next one, and none is empty
abbrev pub AreInOrder : Positions → List Positions → Type 0
AreInOrder old [] = Unit
AreInOrder old (p ∷ ps) = (is_earlier old p ≡ true) × (0 < length p) × AreInOrder p ps

-- the new positions stand to the first one as the old ones did
abbrev pub StandAlike : Positions → Positions → List Positions → List Positions → Type 0
StandAlike old new [] qs = Unit
StandAlike old new (p ∷ ps) [] = ⊥
StandAlike old new (p ∷ ps) (q ∷ qs) = (shared new q ≡ shared old p) × (is_earlier new q ≡ true) × (length q ≡ length p) × StandAlike old new ps qs

abbrev pub positions_of : List Nest → List Positions
positions_of ns = map (λ n. n.positions) ns

-- positions in the order of the text keep it when they are counted anew, share as many loops as before, and are as long
abbrev pub RecountingKeepsOrder : Type 0
RecountingKeepsOrder = (old new : Positions) (ps : List Positions) → 0 < length old → length new ≡ length old → AreInOrder old ps → StandAlike old new ps (recounted old new ps)

-- and so do the statements behind a first one, as they are numbered in code
abbrev pub NumberingKeepsOrder : Type 0
NumberingKeepsOrder =
    (n : Nest) (ns : List Nest) → HasPositions n → AreInOrder n.positions (positions_of ns)
    → (m : Nest) × (ms : List Nest) × (numbered (n ∷ ns) ≡ m ∷ ms) × (length m.positions ≡ length n.positions) × StandAlike n.positions m.positions (positions_of ns) (positions_of ms)
