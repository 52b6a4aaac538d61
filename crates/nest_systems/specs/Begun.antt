-- The rows that all systems have, and those of the reads array[0] at the very end.
use Rattle.std.specs.Prelude.{ℕ, ◌+◌, Bool, false, cond, List, [], ◌∷◌, ◌++◌, map, length, ℤ, pos, Option, Some, None}
use Rattle.std.specs.List.{list_all, flat_map, range_with_len}
use Rattle.std.specs.Ordering.{int_eq}
use Rattle.c_tree.specs.declared.index.Index.{Index}
use Rattle.c_tree.specs.declared.program.Array.{Array}
use Rattle.c_tree.specs.declared.program.Program.{Program}
use Rattle.int_rows.specs.declared.row.Aff.{Aff}
use Rattle.int_rows.specs.declared.row.Row.{Row}
use Rattle.int_rows.specs.Systems.{Rows}
use Rattle.nest_tree.specs.declared.made.Made.{Made}
use Rattle.nest_systems.specs.declared.range.Span.{Span}
use Rattle.nest_systems.specs.Sums.{number_at}
use Rattle.nest_systems.specs.Ranges.{Names, value_span}
use Rattle.nest_systems.specs.Extents.{extent_form}
use Rattle.nest_systems.specs.Spans.{low_row, high_row, unit_form}

abbrev pub is_zero : ℤ → Bool
is_zero z = int_eq z (pos 0)

abbrev pub is_constant : Aff → Bool
is_constant f = list_all is_zero f.coefs

-- a form over so many variables: 0 at each further one
abbrev pub widened : ℕ → Aff → Aff
widened vars f = record { coefs = map (number_at f.coefs) (range_with_len 0 vars); constant = f.constant }

abbrev pub at_least_zero : Aff → Row
at_least_zero f = record { equal = false; form = f }

-- a variable is at least 0
abbrev pub sign_row : ℕ → ℕ → Row
sign_row vars v = at_least_zero (unit_form v vars)

-- a form is at least 0, unless there is none or it is a constant
abbrev pub rows_unless_constant : ℕ → Option Aff → List Row
rows_unless_constant vars (Some f) = cond (is_constant f) [] (at_least_zero (widened vars f) ∷ [])
rows_unless_constant vars None = []

-- an extent is at least 0
abbrev pub extent_rows : Names → ℕ → Index → List Row
extent_rows params vars e = rows_unless_constant vars (extent_form params e)

abbrev pub array_rows : Names → ℕ → Array → List Row
array_rows params vars a = flat_map (extent_rows params vars) a.extents

-- each parameter is at least 0, and so is each extent that isn't a constant
unfoldable pub begun_rows : Program → ℕ → List Row
begun_rows head vars = map (sign_row vars) (range_with_len 0 (length head.params)) ++ flat_map (array_rows head.params vars) head.arrays

-- a system with these rows alone
abbrev pub begun : Program → ℕ → Rows
begun head vars = record { vars = vars; rows = begun_rows head vars }

-- the two rows of a range, where there is one
abbrev pub range_rows : Option Span → Aff → Option ℕ → ℕ → List Row
range_rows (Some s) f count vars = low_row s f vars ∷ high_row s f count vars ∷ []
range_rows None f count vars = []

-- the value ranges of the reads array[0] of these arrays, whose variables begin at one
abbrev pub end_rows : Program → List Made → ℕ → ℕ → Names → List Row
end_rows head made vars at [] = []
end_rows head made vars at (name ∷ names) = range_rows (value_span head made name) (unit_form at vars) None vars ++ end_rows head made vars (at + 1) names
