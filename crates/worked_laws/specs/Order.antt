-- Worked places: a statement in a loop, and one in a loop within it.
use Rattle.std.specs.Prelude.{◌≡◌, ℕ, List, [], ◌∷◌, ℤ, pos, ◌≤ℤ◌, ◌-ℤ◌, ◌*ℤ◌}
use Rattle.c_tree.specs.declared.statement.How.TheVariants.{Write}
use Rattle.c_meaning.specs.Memory.{Spot, Cells}
use Rattle.c_meaning.specs.Ground.{number, Step}
use Rattle.nest_tree.specs.Lists.{IsIn, IsStrictlySorted}
use Rattle.nest_tree.specs.Places.{IsBefore, place, IsInstance, Item, Precedes}
use Rattle.nest_tree.specs.Carriers.{loop, text, IsCarried}
use Rattle.nest_tree.specs.Kernels.{IsKernelList}
use Rattle.nest_laws.specs.Acts.{act}
use Rattle.nest_laws.specs.ListLaws.{AreInConflict, effect_of}
use Rattle.worked_laws.specs.Statements.{one_cell, input}
use Rattle.worked_laws.specs.Shift.{old_list}

abbrev pub outer : List ℕ
outer = 0 ∷ 0 ∷ []

abbrev pub inner : List ℕ
inner = 0 ∷ 1 ∷ 0 ∷ []

-- In turn 4 the first statement comes before the second by the text, and behind what the second does in turn 3 by the loop.
abbrev pub OrderOfTwoStatements : Type 0
OrderOfTwoStatements =
    IsInstance outer (pos 4 ∷ []) × IsInstance inner (pos 3 ∷ pos 5 ∷ []) × (place inner (pos 3 ∷ pos 5 ∷ []) ≡ pos 0 ∷ pos 3 ∷ pos 1 ∷ pos 5 ∷ pos 0 ∷ [])
    × IsCarried (loop 1) inner (pos 3 ∷ pos 5 ∷ []) outer (pos 4 ∷ []) × IsBefore (place inner (pos 3 ∷ pos 5 ∷ [])) (place outer (pos 4 ∷ []))
    × IsCarried text outer (pos 4 ∷ []) inner (pos 4 ∷ pos 5 ∷ []) × IsBefore (place outer (pos 4 ∷ [])) (place inner (pos 4 ∷ pos 5 ∷ []))
    × (IsBefore (place outer (pos 4 ∷ [])) (place inner (pos 3 ∷ pos 5 ∷ [])) → ⊥)
    × ((ps : List ℕ) (vs : List ℤ) → IsInstance ps vs → place ps vs ≡ pos 0 ∷ pos 4 ∷ pos 0 ∷ [] → (ps ≡ outer) × (vs ≡ pos 4 ∷ []))

-- the list of the loop that sets one cell twice, and each list with its members in order, and each list of that kernel
abbrev pub OneSortedList : Type 0
OneSortedList =
    IsStrictlySorted Precedes old_list × IsKernelList act (input (pos 2)) (one_cell ∷ []) old_list
    × ((xs : List (Item Step)) → IsStrictlySorted Precedes xs → ((x : Item Step) → IsIn x xs → IsIn x old_list) → ((x : Item Step) → IsIn x old_list → IsIn x xs) → xs ≡ old_list)
    × ((xs : List (Item Step)) → IsKernelList act (input (pos 2)) (one_cell ∷ []) xs → xs ≡ old_list)

abbrev pub cell : Spot
cell = record { array = 120 ∷ []; at = pos 0 ∷ pos 0 ∷ pos 0 ∷ [] }

abbrev pub writes : ℕ → Item Step
writes n = record { place = pos 0 ∷ []; step = record { target = cell; how = Write; value = number n } }

-- Two writes to one cell conflict, and their order shows. By its first row alone a value would be in two tiles.
abbrev pub WeakerPremisesFail : Type 0
WeakerPremisesFail =
    AreInConflict (writes 1) (writes 2) × ((s : Cells) → (effect_of (writes 1 ∷ writes 2 ∷ []) s cell ≡ 2) × (effect_of (writes 2 ∷ writes 1 ∷ []) s cell ≡ 1))
    × (pos 0 ≤ℤ (pos 7 -ℤ pos 2 *ℤ pos 2)) × (pos 0 ≤ℤ (pos 7 -ℤ pos 2 *ℤ pos 3))
