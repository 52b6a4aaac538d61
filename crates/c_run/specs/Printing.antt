-- The arrays of a signature as a text.
use Rattle.std.specs.Prelude.{ℕ, List, [], Option, Some, None}
use Rattle.std.specs.List.{flat_map, AllByRecursion}
use Rattle.c_tree.specs.declared.program.Array.{Array}
use Rattle.raw_store.specs.Rows.{Rows}
use Rattle.csr_data.specs.declared.values.Table.{Table}
use Rattle.csr_data.specs.Printed.{line_text}
use Rattle.csr_data.specs.Whole.{IsWhole}
use Rattle.c_run.specs.Arrays.{table_of}

-- the cells of an array; where there is no array there are none
abbrev pub rows_in : Option Table → Rows
rows_in None = record { first = 0; deep = 0; wide = 0; cells = [] }
rows_in (Some t) = t.cells

-- the line of an array, by its name
abbrev pub array_text : List Table → Array → List ℕ
array_text ts a = line_text a.name (rows_in (table_of ts a.name)).cells

abbrev pub arrays_text : List Table → List Array → List ℕ
arrays_text ts arrays = flat_map (array_text ts) arrays

-- each of these arrays has as many cells as its extents tell, each below 2^64
abbrev pub AreWhole : List Table → List Array → Type 0
AreWhole ts arrays = AllByRecursion (λ a. IsWhole (rows_in (table_of ts a.name))) arrays
