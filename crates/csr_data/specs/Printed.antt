-- Data as a text: a line for each parameter and array, its name and then its numbers, each behind a blank.
use Rattle.std.specs.Prelude.{ℕ, List, [], ◌∷◌, ◌++◌, decimal}
use Rattle.std.specs.List.{flat_map}
use Rattle.c_meaning.specs.Names.{Name}
use Rattle.csr_data.specs.declared.values.Parameter.{Parameter}
use Rattle.csr_data.specs.declared.values.Table.{Table}

-- a number behind a blank
abbrev pub number_text : ℕ → List ℕ
number_text n = 32 ∷ decimal n

abbrev pub line_text : Name → List ℕ → List ℕ
line_text x ns = x ++ flat_map number_text ns ++ 10 ∷ []

abbrev pub parameter_text : Parameter → List ℕ
parameter_text v = line_text v.name (v.value ∷ [])

abbrev pub table_text : Table → List ℕ
table_text t = line_text t.name t.cells.cells

abbrev pub parameters_text : List Parameter → List ℕ
parameters_text vs = flat_map parameter_text vs

-- the data text of these values
abbrev pub data_text : List Parameter → List Table → List ℕ
data_text vs ts = parameters_text vs ++ flat_map table_text ts
