-- Worked eliminations: i from 0 to at most 9, and j from i to at most 7, of which j goes.
use Rattle.std.specs.Prelude.{◌≡◌, List, [], ◌∷◌, ℤ, pos, negsuc, true, false, Ok}
use Rattle.std.specs.List.{list_any}
use Rattle.int_rows.specs.declared.row.Row.{Row}
use Rattle.int_rows.specs.Rows.{coef_at}
use Rattle.int_rows.specs.Elimination.{elimination}
use Rattle.nest_tree.specs.Lists.{IsIn}
use Rattle.system_laws.specs.Bounds.{eliminated_each, bounds_below, bounds_above}
use Rattle.system_laws.specs.Tightened.{IsTighter}

abbrev pub at_least : List ℤ → ℤ → Row
at_least cs k = record { equal = false; form = record { coefs = cs; constant = k } }

-- 9 - i >= 0
abbrev pub at_most_nine : Row
at_most_nine = at_least (negsuc 0 ∷ pos 0 ∷ []) (pos 9)

abbrev pub triangle : List Row
triangle = at_least (pos 1 ∷ pos 0 ∷ []) (pos 0) ∷ at_most_nine ∷ at_least (negsuc 0 ∷ pos 1 ∷ []) (pos 0) ∷ at_least (pos 0 ∷ negsuc 0 ∷ []) (pos 7) ∷ []

-- i from 0 to at most 7
abbrev pub outer : List Row
outer = at_least (pos 1 ∷ pos 0 ∷ []) (pos 0) ∷ at_least (negsuc 0 ∷ pos 0 ∷ []) (pos 7) ∷ []

-- nothing goes on for ever, and i has bounds on both sides
abbrev pub BoundsOfTriangle : Type 0
BoundsOfTriangle = (eliminated_each (1 ∷ []) triangle ≡ Ok outer) × (list_any (bounds_below 0) outer ≡ true) × (list_any (bounds_above 0) outer ≡ true)

-- 9 - i >= 0 is passed over; 7 - i >= 0 stands for it
abbrev pub PassedRowOfTriangle : Type 0
PassedRowOfTriangle = (elimination 1 triangle ≡ Ok outer) × (coef_at 1 at_most_nine ≡ pos 0) × ((s : Row) × IsIn s outer × IsTighter at_most_nine s)
