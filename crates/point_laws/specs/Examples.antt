-- A worked system: a loop over the rows of a matrix, and in it one over the entries of the row.
use Rattle.std.specs.Prelude.{◌≡◌, ℕ, zero, suc, cond, bytes_eq, List, [], ◌∷◌, ℤ, pos, negsuc, false, Option, Some, None}
use Rattle.c_tree.specs.declared.program.Program.{Program}
use Rattle.int_rows.specs.declared.row.Aff.{Aff}
use Rattle.int_rows.specs.declared.row.Row.{Row}
use Rattle.nest_tree.specs.declared.kernel.Term.{Term}
use Rattle.nest_tree.specs.Forms.{Meets}
use Rattle.nest_tree.specs.Terms.{Input}
use Rattle.nest_systems.specs.declared.instance.Instance.{Instance}
use Rattle.nest_systems.specs.Parts.{end_names}
use Rattle.nest_systems.specs.Statements.{IsPart}
use Rattle.point_laws.specs.Seats.{Seats, AreSeats}
use Rattle.point_laws.specs.Ranges.{IsRanged, HasNoCounts}
use Rattle.point_laws.specs.Own.{own_places, own_rows, own_point, AreOver, AreFound, point_at}

-- the names n, z, x and c: the rows, the entries, where rows begin, and columns
abbrev pub n : List ℕ
n = 110 ∷ []

abbrev pub z : List ℕ
z = 122 ∷ []

abbrev pub x : List ℕ
x = 120 ∷ []

abbrev pub c : List ℕ
c = 99 ∷ []

abbrev pub sparse : Program
sparse = record { name = 115 ∷ []; matrices = record { index = x; col = c; value = 97 ∷ []; rows = n; cols = n; count = z } ∷ []; params = n ∷ z ∷ []; arrays = []; inspector = []; executor = [] }

abbrev pub form : List ℤ → ℤ → Aff
form cs k = record { coefs = cs; constant = k }

abbrev pub at_least : List ℤ → ℤ → Row
at_least cs k = record { equal = false; form = form cs k }

-- x[i] and x[i+1], over n, z, i, p and both
abbrev pub terms : List Term
terms = record { array = x; at = form (pos 0 ∷ pos 0 ∷ pos 1 ∷ pos 0 ∷ pos 0 ∷ pos 0 ∷ []) (pos 0) ∷ [] } ∷ record { array = x; at = form (pos 0 ∷ pos 0 ∷ pos 1 ∷ pos 0 ∷ pos 0 ∷ pos 0 ∷ []) (pos 1) ∷ [] } ∷ []

-- i from 0 to below n, and p from x[i] to below x[i+1]
abbrev pub rows : List Row
rows =
    at_least (pos 0 ∷ pos 0 ∷ pos 1 ∷ pos 0 ∷ pos 0 ∷ pos 0 ∷ []) (pos 0)
    ∷ at_least (pos 1 ∷ pos 0 ∷ negsuc 0 ∷ pos 0 ∷ pos 0 ∷ pos 0 ∷ []) (negsuc 0)
    ∷ at_least (pos 0 ∷ pos 0 ∷ pos 0 ∷ pos 1 ∷ negsuc 0 ∷ pos 0 ∷ []) (pos 0)
    ∷ at_least (pos 0 ∷ pos 0 ∷ pos 0 ∷ negsuc 0 ∷ pos 0 ∷ pos 1 ∷ []) (negsuc 0)
    ∷ []

-- n is 2, z is 3, and x is 0, 1, 3
abbrev pub begins : List ℤ → Option ℤ
begins (pos zero ∷ []) = Some (pos 0)
begins (pos (suc zero) ∷ []) = Some (pos 1)
begins (pos (suc (suc zero)) ∷ []) = Some (pos 3)
begins _ = None

abbrev pub input : Input
input = record { params = pos 2 ∷ pos 3 ∷ []; cells = λ array at. cond (bytes_eq array x) (begins at) None }

-- row 1, and the entry 2 in it
abbrev pub levels : List ℤ
levels = pos 1 ∷ pos 2 ∷ []

-- the parameters are at least 0, the rows are met, and both terms lie from 0 to z
abbrev pub system : List Row
system =
    at_least (pos 1 ∷ pos 0 ∷ pos 0 ∷ pos 0 ∷ pos 0 ∷ pos 0 ∷ []) (pos 0)
    ∷ at_least (pos 0 ∷ pos 1 ∷ pos 0 ∷ pos 0 ∷ pos 0 ∷ pos 0 ∷ []) (pos 0)
    ∷ at_least (pos 0 ∷ pos 0 ∷ pos 1 ∷ pos 0 ∷ pos 0 ∷ pos 0 ∷ []) (pos 0)
    ∷ at_least (pos 1 ∷ pos 0 ∷ negsuc 0 ∷ pos 0 ∷ pos 0 ∷ pos 0 ∷ []) (negsuc 0)
    ∷ at_least (pos 0 ∷ pos 0 ∷ pos 0 ∷ pos 1 ∷ negsuc 0 ∷ pos 0 ∷ []) (pos 0)
    ∷ at_least (pos 0 ∷ pos 0 ∷ pos 0 ∷ negsuc 0 ∷ pos 0 ∷ pos 1 ∷ []) (negsuc 0)
    ∷ at_least (pos 0 ∷ pos 0 ∷ pos 0 ∷ pos 0 ∷ pos 1 ∷ pos 0 ∷ []) (pos 0)
    ∷ at_least (pos 0 ∷ pos 1 ∷ pos 0 ∷ pos 0 ∷ negsuc 0 ∷ pos 0 ∷ []) (pos 0)
    ∷ at_least (pos 0 ∷ pos 0 ∷ pos 0 ∷ pos 0 ∷ pos 0 ∷ pos 1 ∷ []) (pos 0)
    ∷ at_least (pos 0 ∷ pos 1 ∷ pos 0 ∷ pos 0 ∷ pos 0 ∷ negsuc 0 ∷ []) (pos 0)
    ∷ []

-- no value range speaks of a cell count[0] where no array is made
abbrev pub NothingMadeHasNoCounts : Type 0
NothingMadeHasNoCounts = (head : Program) → HasNoCounts head []

-- each system of the statement has those rows, its point has these values, all premises of the law hold, and so the rows are met there
abbrev pub SparseSystem : Type 0
SparseSystem =
    (y : Instance) (s : Seats) → IsPart sparse [] 2 terms 0 rows [] y → AreSeats y (own_places sparse y) (end_names y) s
    → (own_rows sparse [] y s ≡ system) × (own_point input terms levels y ≡ pos 2 ∷ pos 3 ∷ pos 1 ∷ pos 2 ∷ pos 1 ∷ pos 3 ∷ [])
    × IsRanged sparse [] input × AreOver 4 terms rows × Meets (point_at input terms levels) rows × AreFound input terms levels × Meets (own_point input terms levels y) (own_rows sparse [] y s)
