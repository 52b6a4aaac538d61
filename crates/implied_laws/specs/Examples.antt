-- A worked implication: in a loop from 0 to below n, n is at least 1.
use Rattle.std.specs.Prelude.{◌≡◌, true, false, List, [], ◌∷◌, ℤ, pos, negsuc, ◌≤ℤ◌, None}
use Rattle.c_tree.specs.declared.program.Program.{Program}
use Rattle.int_rows.specs.declared.row.Aff.{Aff}
use Rattle.int_rows.specs.declared.row.Row.{Row}
use Rattle.nest_tree.specs.Forms.{value, Meets}
use Rattle.nest_tree.specs.Terms.{Input}
use Rattle.point_laws.specs.Own.{AreOver, AreFound, point_at}
use Rattle.point_laws.specs.Ranges.{IsRanged}
use Rattle.scanning.specs.Projections.{is_implied}

-- one parameter, n
abbrev pub head : Program
head = record { name = 102 ∷ []; matrices = []; params = (110 ∷ []) ∷ []; arrays = []; inspector = []; executor = [] }

-- a form of n and t
abbrev pub form : ℤ → ℤ → ℤ → Aff
form n t c = record { coefs = n ∷ t ∷ []; constant = c }

-- t >= 0 and n - 1 - t >= 0
abbrev pub rows : List Row
rows = record { equal = false; form = form (pos 0) (pos 1) (pos 0) } ∷ record { equal = false; form = form (pos 1) (negsuc 0) (negsuc 0) } ∷ []

-- n - 1
abbrev pub some : Aff
some = form (pos 1) (pos 0) (negsuc 0)

-- n is 3
abbrev pub input : Input
input = record { params = pos 3 ∷ []; cells = λ a at. None }

-- n - 1 >= 0 is implied, all premises of the law hold where t is 2, and so it is true there
abbrev pub WorkedImplication : Type 0
WorkedImplication =
    IsRanged head [] input × AreOver 2 [] rows × Meets (point_at input [] (pos 2 ∷ [])) rows × AreFound input [] (pos 2 ∷ []) × (is_implied head [] 1 [] rows some ≡ true)
    × (pos 0 ≤ℤ value (point_at input [] (pos 2 ∷ [])) some)
