-- Two statements in one system.
use Rattle.std.specs.Prelude.{ℕ, ◌+◌, Bool, not, List, ◌++◌, map, length, filter}
use Rattle.std.specs.List.{list_any}
use Rattle.int_rows.specs.Systems.{Rows}
use Rattle.int_rows.specs.declared.row.Row.{Row}
use Rattle.nest_tree.specs.declared.kernel.Kernel.{Kernel}
use Rattle.nest_systems.specs.declared.instance.Instance.{Instance}
use Rattle.nest_systems.specs.declared.seats.Places.{Places}
use Rattle.nest_systems.specs.declared.seats.Seats.{Seats}
use Rattle.nest_systems.specs.Ranges.{Names}
use Rattle.nest_systems.specs.Extents.{has_name}
use Rattle.nest_systems.specs.Begun.{begun_rows, end_rows}
use Rattle.nest_systems.specs.Parts.{end_names}
use Rattle.nest_systems.specs.Placing.{placed_row}

abbrev pub is_new : Names → List ℕ → Bool
is_new names name = not (list_any (has_name name) names)

-- the names of the first list, and those of the second that aren't among them
abbrev pub joined_names : Names → Names → Names
joined_names xs ys = xs ++ filter (is_new xs) ys

-- the arrays of the reads at the very end, of both statements
abbrev pub pair_ends : Instance → Instance → Names
pair_ends a b = joined_names (end_names a) (end_names b)

-- the variables: the parameters, the levels of both, the terms of both, and the reads at the very end
abbrev pub first_term : ℕ → Instance → Instance → ℕ
first_term params a b = params + a.levels + b.levels

abbrev pub second_term : ℕ → Instance → Instance → ℕ
second_term params a b = first_term params a b + length a.chosen.order

abbrev pub first_end : ℕ → Instance → Instance → ℕ
first_end params a b = second_term params a b + length b.chosen.order

abbrev pub pair_vars : ℕ → Instance → Instance → ℕ
pair_vars params a b = first_end params a b + length (pair_ends a b)

abbrev pub first_places : ℕ → Instance → Instance → Places
first_places params a b = record {
  params = params;
  first_level = params;
  first_term = first_term params a b;
  first_end = first_end params a b;
  vars = pair_vars params a b;
}

abbrev pub second_places : ℕ → Instance → Instance → Places
second_places params a b = record {
  params = params;
  first_level = params + a.levels;
  first_term = second_term params a b;
  first_end = first_end params a b;
  vars = pair_vars params a b;
}

-- the rows of both statements, and then the value ranges of their terms
abbrev pub both_rows : Instance → Instance → Seats → Seats → List Row
both_rows a b s t = map (placed_row s) a.rows ++ (map (placed_row t) b.rows ++ (map (placed_row s) a.ranges ++ map (placed_row t) b.ranges))

-- the rows that don't speak of an order: those that all systems have, those of the statements, and the value ranges of the reads at the very end
abbrev pub pair_rows : Kernel → Instance → Instance → Seats → Seats → List Row
pair_rows k a b s t =
    begun_rows k.head (pair_vars (length k.head.params) a b)
    ++ (both_rows a b s t ++ end_rows k.head k.made (pair_vars (length k.head.params) a b) (first_end (length k.head.params) a b) (pair_ends a b))

abbrev pub pair_system : Kernel → Instance → Instance → Seats → Seats → Rows
pair_system k a b s t = record { vars = pair_vars (length k.head.params) a b; rows = pair_rows k a b s t }
