-- Rows in plain seats are those in the code's.
use Rattle.std.proofs.Common.{◌≡◌, List, map, refl}
use Rattle.int_rows.specs.declared.row.Row.{Row}
use Rattle.nest_systems.specs.declared.instance.Instance.{Instance}
use Rattle.nest_systems.specs.declared.seats.Places.{Places}
use Rattle.nest_systems.specs.declared.seats.Seats as code
use Rattle.nest_systems.specs.Placing as placing
use Rattle.nest_systems.specs.Ranges.{Names}
use Rattle.nest_systems.specs.Seating as seating
use Rattle.point_laws.specs.Seats.{seated_number, placed, placed_row, AreSeats, plain, PlainPlacesAlike}

pub are-plain : (i : Instance) (p : Places) (ends : Names) (s : code.Seats) → seating.AreSeats i p ends s → AreSeats i p ends (plain s)
are-plain i p ends s h = record { params = h.params; levels = h.levels; first_level = h.first_level; terms = h.terms; vars = h.vars }

rows-alike : (s : code.Seats) (rows : List Row) → map (placed_row (plain s)) rows ≡ map (placing.placed_row s) rows
unfolding placed seated_number placing.placed placing.seated_number
rows-alike s rows = refl

pub places_alike : PlainPlacesAlike
places_alike i p ends s rows h = (are-plain i p ends s h, rows-alike s rows)
