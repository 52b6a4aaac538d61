-- A statement's form in the seats of its variables.
use Rattle.std.specs.Prelude.{◌≡◌, ℕ, ◌+◌, ◌<◌, ◌≤◌, List, ◌++◌, map, pos, true, false, nat_lt, Option, Some, None, slice_get}
use Rattle.int_rows.specs.declared.row.Aff.{Aff}
use Rattle.nest_tree.specs.Forms.{variable, variables, number, replaced}
use Rattle.nest_tree.specs.Pieces.{IsLike}
use Rattle.nest_core.specs.Numbers.{is_small}
use Rattle.point_laws.specs.Seats.{Seats, is_level, seated_number, placed}

-- the seats are apart: parameters first, then all levels, then the terms
pub record AreApart (s : Seats) : Type 0 where
  pub first : s.params ≤ s.first_level
  pub levels : s.first_level + s.levels ≤ s.vars
  pub terms : (t v : ℕ) → slice_get s.terms t ≡ Some (Some v) → (s.first_level + s.levels ≤ v) × (v < s.vars)

-- the seat of a term as a form of the system's variables; a term that has none counts as 0
abbrev pub seat_form : Option ℕ → Aff
seat_form (Some v) = variable v
seat_form None = number (pos 0)

-- a statement's variables as forms of the system's
abbrev pub seat_variables : Seats → List Aff
seat_variables s = variables 0 s.params ++ (variables s.first_level s.levels ++ map seat_form s.terms)

-- the sums of the numbers of terms that stand at one variable are within the limit
abbrev pub IsSeatedSmall : Seats → Aff → Type 0
IsSeatedSmall s f = (v : ℕ) → v < s.vars → nat_lt v s.params ≡ false → is_level s v ≡ false → is_small (seated_number s f.coefs v) ≡ true

-- such a form in its seats is the form with each variable replaced by its seat
abbrev pub PlacedIsReplaced : Type 0
PlacedIsReplaced = (s : Seats) (f : Aff) → AreApart s → IsSeatedSmall s f → IsLike (placed s f) (replaced (seat_variables s) f)
