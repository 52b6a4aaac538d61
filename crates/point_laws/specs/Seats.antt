-- Where a statement's variables stand in a system, as plain data: the code's seats hold conditions on machine numbers, so no total definition can build them.
use Rattle.std.specs.Prelude.{◌≡◌, ℕ, ◌+◌, ◌-◌, Bool, cond, ◌&&◌, nat_lt, nat_le, List, map, ℤ, Option}
use Rattle.std.specs.List.{range_with_len}
use Rattle.int_rows.specs.declared.row.Aff.{Aff}
use Rattle.int_rows.specs.declared.row.Row.{Row}
use Rattle.nest_systems.specs.declared.instance.Instance.{Instance}
use Rattle.nest_systems.specs.declared.seats.Places.{Places}
use Rattle.nest_systems.specs.declared.seats.Seats as code
use Rattle.nest_systems.specs.Placing as placing
use Rattle.nest_systems.specs.Placing.{numbers_there, small_total, or_large}
use Rattle.nest_systems.specs.Ranges.{Names}
use Rattle.nest_systems.specs.Seating as seating
use Rattle.nest_systems.specs.Seating.{seat}
use Rattle.nest_systems.specs.Sums.{number_at}

-- the numbers of parameters and levels, the variable of the first level, that of each term that has one, and how many variables the system has
pub record Seats : Type 0 where
  pub params : ℕ
  pub levels : ℕ
  pub first_level : ℕ
  pub terms : List (Option ℕ)
  pub vars : ℕ

-- the variable is that of a level
abbrev pub is_level : Seats → ℕ → Bool
is_level s v = nat_le s.first_level v && nat_lt (v - s.first_level) s.levels

-- the number of a statement's form at a variable of the system: that of the parameter, of the level, or of all terms that stand there
unfoldable pub seated_number : Seats → List ℤ → ℕ → ℤ
seated_number s cs v =
    cond (nat_lt v s.params) (number_at cs v)
    (cond (is_level s v) (number_at cs (s.params + (v - s.first_level)))
    (or_large (small_total (numbers_there (s.params + s.levels) s.terms v cs))))

-- a statement's form over the system's variables
unfoldable pub placed : Seats → Aff → Aff
placed s f = record { coefs = map (seated_number s f.coefs) (range_with_len 0 s.vars); constant = f.constant }

abbrev pub placed_row : Seats → Row → Row
placed_row s r = record { equal = r.equal; form = placed s r.form }

-- the seats of a statement's variables in a system with these places, and these reads at the very end
abbrev pub seats_in : Instance → Places → Names → Seats
seats_in i p ends = record { params = p.params; levels = i.levels; first_level = p.first_level; terms = map (seat i p ends) i.chosen.same; vars = p.vars }

-- the seats are those
pub record AreSeats (i : Instance) (p : Places) (ends : Names) (s : Seats) : Type 0 where
  pub params : s.params ≡ p.params
  pub levels : s.levels ≡ i.levels
  pub first_level : s.first_level ≡ p.first_level
  pub terms : s.terms ≡ map (seat i p ends) i.chosen.same
  pub vars : s.vars ≡ p.vars

-- the code's seats as plain data
abbrev pub plain : code.Seats → Seats
plain s = record { params = s.params; levels = s.levels; first_level = s.first_level; terms = s.terms; vars = s.vars }

-- the code's seats are the plain ones, and rows in them are the same
abbrev pub PlainPlacesAlike : Type 0
PlainPlacesAlike =
    (i : Instance) (p : Places) (ends : Names) (s : code.Seats) (rows : List Row) → seating.AreSeats i p ends s
    → AreSeats i p ends (plain s) × (map (placed_row (plain s)) rows ≡ map (placing.placed_row s) rows)
