-- Values by their names.
use Rattle.std.specs.Prelude.{ℕ, List, [], ◌∷◌, slice_set, Option, Some, None, if◌then◌else◌}
use Rattle.c_meaning.specs.Names.{Name, same_name}
use Rattle.raw_store.specs.Rows.{Rows, IsInside, place}
use Rattle.csr_data.specs.declared.values.Parameter.{Parameter}
use Rattle.csr_data.specs.declared.values.Table.{Table}
use Rattle.csr_data.specs.declared.values.Values.{Values}

abbrev pub params_of : Values → List Parameter
params_of v = v.params.items

abbrev pub arrays_of : Values → List Table
arrays_of v = v.arrays.items

-- the value of the parameter of that name
abbrev pub param_of : List Parameter → Name → Option ℕ
param_of [] x = None
param_of (v ∷ vs) x = if same_name v.name x then Some v.value else param_of vs x

-- the cells of the array of that name
abbrev pub array_of : List Table → Name → Option Rows
array_of [] x = None
array_of (t ∷ ts) x = if same_name t.name x then Some t.cells else array_of ts x

-- there is such an array, and such a cell of it
abbrev pub has_cell : Option Rows → List ℕ → Type 0
has_cell None at = ⊥
has_cell (Some g) at = IsInside g at

-- the array of that name with another number at that place
abbrev pub with_cell : List Table → Name → List ℕ → ℕ → List Table
with_cell [] x at n = []
with_cell (t ∷ ts) x at n = if same_name t.name x then record t { cells = record t.cells { cells = slice_set t.cells.cells (place t.cells at) n } } ∷ ts else t ∷ with_cell ts x at n
