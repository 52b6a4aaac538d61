-- Worked instances: the loop that sets y[0] is shifted by 5, and positions are counted anew.
use Rattle.std.specs.Prelude.{◌≡◌, List, [], ◌∷◌, pos}
use Rattle.c_meaning.specs.Memory.{Cells}
use Rattle.nest_laws.specs.ListLaws.{effect_of}
use Rattle.worked_laws.specs.Statements.{one_cell, input}
use Rattle.worked_laws.specs.Shift.{by_five, old_list, new_list}
use Rattle.move_laws.specs.Unchanged.{IsUnchanged}
use Rattle.move_laws.specs.Recounting.{Positions, AreInOrder, StandAlike, recounted}
use Rattle.move_laws.specs.Bounded.{IsBounded, TellsLevels}

-- no two of its assignments change their order, and so the effect is the same
abbrev pub UnchangedLoop : Type 0
UnchangedLoop = IsUnchanged (input (pos 2)) (by_five ∷ []) (one_cell ∷ []) (by_five.new ∷ []) × ((s : Cells) → effect_of new_list s ≡ effect_of old_list s)

-- both loops have a lower and an upper bound, so neither goes on for ever
abbrev pub BoundedLoop : Type 0
BoundedLoop = IsBounded 1 one_cell × TellsLevels 1 by_five × IsBounded 1 by_five.new

-- behind 3, 0: a statement in the same loop, one in a loop of that loop, and one behind
abbrev pub behind : List Positions
behind = (3 ∷ 2 ∷ []) ∷ (3 ∷ 4 ∷ 7 ∷ []) ∷ (5 ∷ 1 ∷ []) ∷ []

abbrev pub counted : List Positions
counted = (0 ∷ 1 ∷ []) ∷ (0 ∷ 2 ∷ 0 ∷ []) ∷ (1 ∷ 0 ∷ []) ∷ []

abbrev pub RecountedPositions : Type 0
RecountedPositions = AreInOrder (3 ∷ 0 ∷ []) behind × (recounted (3 ∷ 0 ∷ []) (0 ∷ 0 ∷ []) behind ≡ counted) × StandAlike (3 ∷ 0 ∷ []) (0 ∷ 0 ∷ []) behind counted
