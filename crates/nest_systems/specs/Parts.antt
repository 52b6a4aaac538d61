-- A statement's part of a system: its rows, and the value ranges of the terms that are variables.
use Rattle.std.specs.Prelude.{ℕ, ◌+◌, Bool, ◌&&◌, bytes_eq, List, [], ◌∷◌, ◌++◌, map, replicate, pos, length, slice_get, Option, Some, None}
use Rattle.std.specs.List.{list_all, flat_map, position_from}
use Rattle.c_tree.specs.declared.program.Program.{Program}
use Rattle.int_rows.specs.declared.row.Aff.{Aff}
use Rattle.int_rows.specs.declared.row.Row.{Row}
use Rattle.nest_tree.specs.declared.kernel.Term.{Term}
use Rattle.nest_tree.specs.declared.made.Made.{Made}
use Rattle.nest_systems.specs.declared.range.Span.{Span}
use Rattle.nest_systems.specs.declared.instance.Instance.{Instance}
use Rattle.nest_systems.specs.Ranges.{Names, value_span}
use Rattle.nest_systems.specs.Spans.{low_row, high_row, unit_form}
use Rattle.nest_systems.specs.Begun.{is_zero, is_constant, widened}

abbrev pub is_zero_form : Aff → Bool
is_zero_form f = is_zero f.constant && is_constant f

-- the term is array[0]
abbrev pub is_first_cell : List ℕ → Term → Bool
is_first_cell array t = bytes_eq t.array array && list_all is_zero_form t.at

-- the variable of the thing with that number behind a first one
abbrev pub behind : ℕ → Option ℕ → Option ℕ
behind first (Some i) = Some (first + i)
behind first None = None

-- the variable of count[0] among terms
abbrev pub count_var : ℕ → List Term → Option (List ℕ) → Option ℕ
count_var first terms (Some name) = behind first (position_from (is_first_cell name) 0 terms)
count_var first terms None = None

-- the two rows of a form's range, where there is one
abbrev pub span_rows : ℕ → List Term → Aff → Option Span → List Row
span_rows first terms f (Some s) = low_row s f (first + length terms) ∷ high_row s f (count_var first terms s.count) (first + length terms) ∷ []
span_rows first terms f None = []

-- the value range of the term with that number
abbrev pub term_rows : Program → List Made → ℕ → List Term → ℕ → Option Term → List Row
term_rows head made first terms t (Some u) = span_rows first terms (unit_form (first + t) (first + length terms)) (value_span head made u.array)
term_rows head made first terms t None = []

abbrev pub rows_of_term : Program → List Made → ℕ → List Term → ℕ → List Row
rows_of_term head made first terms t = term_rows head made first terms t (slice_get terms t)

-- the value ranges of terms, in their order
unfoldable pub value_rows : Program → List Made → ℕ → List Term → List ℕ → List Row
value_rows head made first terms order = flat_map (rows_of_term head made first terms) order

abbrev pub name_of : Option Term → Names
name_of (Some t) = t.array ∷ []
name_of None = []

abbrev pub name_of_term : List Term → ℕ → Names
name_of_term terms t = name_of (slice_get terms t)

-- the arrays of the reads at the very end
abbrev pub end_names : Instance → Names
end_names i = flat_map (name_of_term i.terms) i.chosen.ends

-- a term over so many variables
abbrev pub widened_term : ℕ → Term → Term
widened_term vars t = record { array = t.array; at = map (widened vars) t.at }

-- the read array[0] over so many variables
abbrev pub first_cell : ℕ → List ℕ → Term
first_cell vars array = record { array = array; at = record { coefs = replicate vars (pos 0); constant = pos 0 } ∷ [] }

-- terms, and behind them the reads array[0] of further arrays, over the variables of them all
unfoldable pub extended_terms : ℕ → List Term → Names → List Term
extended_terms vars terms arrays = map (widened_term vars) terms ++ map (first_cell vars) arrays
