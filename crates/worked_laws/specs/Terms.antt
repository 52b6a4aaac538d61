-- Worked terms: a read within a read.
use Rattle.std.specs.Prelude.{◌≡◌, ℕ, zero, suc, List, [], ◌∷◌, map, ℤ, pos, Option, Some, None}
use Rattle.nest_tree.specs.declared.kernel.Term.{Term}
use Rattle.nest_tree.specs.Terms.{Input, reading, term_values}
use Rattle.nest_laws.specs.KernelLaws.{HaveSomeRanks}
use Rattle.worked_laws.specs.Statements.{form}

abbrev pub x : List ℕ
x = 120 ∷ []

-- x holds 0, 2, 5, 6
abbrev pub cells_of_x : List ℤ → Option ℤ
cells_of_x (pos zero ∷ []) = Some (pos 0)
cells_of_x (pos (suc zero) ∷ []) = Some (pos 2)
cells_of_x (pos (suc (suc zero)) ∷ []) = Some (pos 5)
cells_of_x (pos (suc (suc (suc zero))) ∷ []) = Some (pos 6)
cells_of_x _ = None

abbrev pub x_input : Input
x_input = record { params = []; cells = λ a at. cells_of_x at }

-- over one level i: x[i], and x[x[i]]
abbrev pub terms : List Term
terms = record { array = x; at = form (pos 1 ∷ []) (pos 0) ∷ [] } ∷ record { array = x; at = form (pos 0 ∷ pos 1 ∷ []) (pos 0) ∷ [] } ∷ []

-- for i = 1 they are 2 and 5, and no other values are what the terms read at them; and without terms there are no values
abbrev pub NestedTerms : Type 0
NestedTerms =
    HaveSomeRanks 1 terms × (term_values x_input terms (pos 1 ∷ []) ≡ pos 2 ∷ pos 5 ∷ [])
    × ((ts : List ℤ) → ts ≡ map (reading x_input (pos 1 ∷ ts)) terms → ts ≡ pos 2 ∷ pos 5 ∷ []) × HaveSomeRanks 1 []
