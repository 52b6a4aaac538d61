-- The system of one statement, row by row.
use Rattle.std.specs.Prelude.{ℕ, ◌+◌, List, [], ◌∷◌, length, Result, Ok}
use Rattle.c_tree.specs.declared.program.Program.{Program}
use Rattle.int_rows.specs.declared.row.Aff.{Aff}
use Rattle.int_rows.specs.declared.row.Row.{Row}
use Rattle.int_rows.specs.declared.row.Excess.{Excess}
use Rattle.int_rows.specs.Systems.{Rows, pushed}
use Rattle.int_rows.specs.Exclusion.{when_left}
use Rattle.nest_tree.specs.declared.kernel.Term.{Term}
use Rattle.nest_tree.specs.declared.made.Made.{Made}
use Rattle.nest_systems.specs.declared.instance.Instance.{Instance}
use Rattle.nest_systems.specs.Ranges.{Names}
use Rattle.nest_systems.specs.Choosing.{chosen_of, missing_of, with_counts}
use Rattle.nest_systems.specs.Parts.{extended_terms, value_rows, end_names}
use Rattle.point_laws.specs.Seats.{Seats, seats_in}
use Rattle.point_laws.specs.Own.{own_places, own_rows}

-- the part of a statement with these levels, terms and rows, of which further forms speak
abbrev pub instance_of : Program → List Made → ℕ → List Term → ℕ → List Row → List Aff → Instance
instance_of head made levels terms extras rows forms =
    let at : ℕ = length head.params + levels in
    let held = chosen_of at terms extras rows forms in
    let further : Names = missing_of head made terms held in
    let chosen = with_counts head made terms held in
    let all : List Term = extended_terms (at + length terms + length further) terms further in
    record { levels = levels; vars = at + length terms + length further; count = length terms; terms = all; chosen = chosen; rows = rows; ranges = value_rows head made at all chosen.order }

-- the seats of a statement's variables in its own system
abbrev pub seats_of : Program → Instance → Seats
seats_of head i = seats_in i (own_places head i) (end_names i)

-- rows behind others, one by one, or the first limit
abbrev pub pushed_all : Rows → List Row → Result Rows Excess
pushed_all s [] = Ok s
pushed_all s (r ∷ rs) = when_left (pushed s r) (λ t. pushed_all t rs)

-- the system of one statement over the variables of its seats, or the first limit that it passes
abbrev pub own_system : Program → List Made → Instance → Result Rows Excess
own_system head made i = pushed_all (record { vars = (seats_of head i).vars; rows = [] }) (own_rows head made i (seats_of head i))
