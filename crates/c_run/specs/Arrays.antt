-- The arrays of a run by their names, and their cells by subscripts.
use Rattle.std.specs.Prelude.{ℕ, max, ◌+◌, ◌-◌, ◌*◌, ◌^◌, ℤ, pos, negsuc, unsigned_abs, List, [], ◌∷◌, ◌++◌, map, replicate, if◌then◌else◌, nat_lt, suc, Option, Some, None, slice_index_or, ◌&&◌, int_le, int_lt}
use Rattle.std.specs.Option.{option_map}
use Rattle.c_tree.specs.declared.program.Kind.{Kind}
use Rattle.c_meaning.specs.Names.{Name, same_name}
use Rattle.c_meaning.specs.Value.{is_inside}
use Rattle.c_meaning.specs.Run.{grown}
use Rattle.raw_store.specs.Rows.{Rows, place}
use Rattle.csr_data.specs.declared.values.Table.{Table}

-- what an array is, but for its cells. It has one extent at least.
pub record Shape : Type 0 where
  pub kind : Kind
  pub dimensions : ℕ
  pub extents : List ℤ

abbrev pub extents_of_rows : Rows → List ℤ
extents_of_rows g = pos g.first ∷ pos g.deep ∷ pos g.wide ∷ []

abbrev pub shape_of : Table → Shape
shape_of t = record { kind = t.kind; dimensions = max 1 t.dimensions; extents = extents_of_rows t.cells }

-- the array of that name, and its number
abbrev pub table_of : List Table → Name → Option Table
table_of [] x = None
table_of (t ∷ ts) x = if same_name t.name x then Some t else table_of ts x

abbrev pub number_in : List Table → Name → ℕ
number_in [] x = 0
number_in (t ∷ ts) x = if same_name t.name x then 0 else suc (number_in ts x)

abbrev pub shape_in : List Table → Name → Option Shape
shape_in ts x = option_map shape_of (table_of ts x)

-- what a cell holds; 0 outside
abbrev pub cell_in : Rows → List ℤ → ℕ
cell_in g at = if is_inside at (extents_of_rows g) then slice_index_or g.cells (place g (map unsigned_abs at)) 0 else 0

abbrev pub cell_of : Option Table → List ℤ → ℕ
cell_of None at = 0
cell_of (Some t) at = cell_in t.cells at

abbrev pub cell_at : List Table → Name → List ℤ → ℕ
cell_at ts x at = cell_of (table_of ts x) at

-- the extents of an array; none where there is no array
abbrev pub extents_of : Option Shape → List ℤ
extents_of None = []
extents_of (Some s) = s.extents

-- a cell, where its subscripts are inside
abbrev pub seen_in : List Table → Name → List ℤ → Option ℕ
seen_in ts x at = if is_inside at (extents_of (shape_in ts x)) then Some (cell_at ts x at) else None

-- a subscript as a place, where it is inside
abbrev pub place_in : ℤ → ℤ → Option ℕ
place_in i e = if int_le (pos 0) i && int_lt i e then Some (unsigned_abs i) else None

abbrev pub all_places : Option ℕ → Option ℕ → Option ℕ → Option (List ℕ)
all_places (Some i) (Some j) (Some k) = Some (i ∷ j ∷ k ∷ [])
all_places _ _ _ = None

-- the subscripts as places of a grid, where they are inside
abbrev pub places_in : List ℤ → List ℤ → Option (List ℕ)
places_in at es = if is_inside at es then Some (map unsigned_abs at) else None

-- more rows of zeros
abbrev pub grown_rows : ℕ → Rows → Rows
grown_rows n g = record g { first = g.first + n; cells = g.cells ++ replicate (n * (g.deep * g.wide)) 0 }

abbrev pub grown_shape : ℤ → Shape → Shape
grown_shape n s = record s { extents = grown n s.extents }

-- a cell of an index array holds its number modulo 2^64
abbrev pub signed : ℕ → ℤ
signed c = if nat_lt c (2 ^ 63) then pos c else negsuc (2 ^ 64 - 1 - c)
