-- A statement's forms and rows as those of a system in which its variables have their seats.
use Rattle.std.specs.Prelude.{ℕ, ◌+◌, ◌-◌, ◌^◌, Bool, cond, ◌&&◌, nat_lt, nat_le, List, [], ◌∷◌, map, ℤ, pos, ◌+ℤ◌, Option, Some, None}
use Rattle.std.specs.List.{list_all, range_with_len}
use Rattle.int_rows.specs.declared.row.Aff.{Aff}
use Rattle.int_rows.specs.declared.row.Row.{Row}
use Rattle.nest_core.specs.Numbers.{is_small, judged_number}
use Rattle.nest_systems.specs.Sums.{number_at}
use Rattle.nest_systems.specs.Spans.{is_there, unit_form}
use Rattle.nest_systems.specs.declared.seats.Seats.{Seats}

-- the numbers of a form for the terms that stand at a variable, where the first term's number has that place
abbrev pub numbers_there : ℕ → List (Option ℕ) → ℕ → List ℤ → List ℤ
numbers_there at [] v cs = []
numbers_there at (t ∷ ts) v cs = cond (is_there v t) (number_at cs at ∷ numbers_there (at + 1) ts v cs) (numbers_there (at + 1) ts v cs)

abbrev pub total : List ℤ → ℤ
total [] = pos 0
total (z ∷ zs) = z +ℤ total zs

-- the sum of numbers, where each of them and the sum is within the limit
unfoldable pub small_total : List ℤ → Option ℤ
small_total zs = cond (list_all is_small zs) (judged_number (total zs)) None

-- a number past the limit stands for a sum that is past it
abbrev pub or_large : Option ℤ → ℤ
or_large (Some z) = z
or_large None = pos (2 ^ 126 + 1)

-- the variable is that of a level
abbrev pub is_level : Seats → ℕ → Bool
is_level s v = nat_le s.first_level v && nat_lt (v - s.first_level) s.levels

-- the number of a statement's form at a variable of the system: that of the parameter, of the level, or of all terms that stand there
unfoldable pub seated_number : Seats → List ℤ → ℕ → ℤ
seated_number s cs v =
    cond (nat_lt v s.params) (number_at cs v)
    (cond (is_level s v) (number_at cs (s.params + (v - s.first_level)))
    (or_large (small_total (numbers_there (s.params + s.levels) s.terms v cs))))

-- a statement's form over the system's variables
unfoldable pub placed : Seats → Aff → Aff
placed s f = record { coefs = map (seated_number s f.coefs) (range_with_len 0 s.vars); constant = f.constant }

abbrev pub placed_row : Seats → Row → Row
placed_row s r = record { equal = r.equal; form = placed s r.form }

-- the statement's levels as variables of the system
unfoldable pub seated_levels : Seats → List Aff
seated_levels s = map (λ v. unit_form v s.vars) (range_with_len s.first_level s.levels)
