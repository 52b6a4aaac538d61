-- A statement over the entries of a matrix, and over padded cells.
use Rattle.std.specs.Prelude.{ℕ, zero, suc, ◌+◌, List, [], ◌∷◌, ◌++◌, map, if◌then◌else◌, nat_lt}
use Rattle.c_tree.specs.declared.statement.How.{How}
use Rattle.c_meaning.specs.Memory.{Spot}
use Rattle.c_meaning.specs.Ground.{Step}
use Rattle.sparse_marks.specs.Matrices.{Csr, Entry, count, entries, is_at}
use Rattle.sparse_layouts.specs.Padded.{width, row_column, upto}
use Rattle.sparse_padding.specs.Products.{Frame, with_factor}
use Rattle.sparse_padding.specs.Positions.{Position}

-- the target and the product at a row and a column, and the cell of an entry's value by its place
pub record Body : Type 0 where
  pub target : ℕ → ℕ → Spot
  pub how : How
  pub product : ℕ → ℕ → Frame
  pub value : ℕ → Spot

-- what is performed for an entry
abbrev pub entry_step : Body → Entry → Step
entry_step b e = with_factor (b.target e.row e.col) b.how (b.product e.row e.col) (b.value e.place)

-- a cell of a layout that stands for a row and a column
pub record Padded : Type 0 where
  pub row : ℕ
  pub col : ℕ
  pub cell : Spot

-- the places of the entries at a row and a column
abbrev pub places_at : ℕ → ℕ → List Entry → List ℕ
places_at i j [] = []
places_at i j (e ∷ es) = if is_at i j e then e.place ∷ places_at i j es else places_at i j es

-- all entries at a row and a column fall on its cell
abbrev pub position_of : Body → Csr → Padded → Position
position_of b m c = record {
  target = b.target c.row c.col;
  how = b.how;
  product = b.product c.row c.col;
  entries = map b.value (places_at c.row c.col (entries m));
  cell = c.cell;
}

-- of padded rows, the s-th cell of row i has the row's s-th entry, if there is one
abbrev pub row_position : Body → (ℕ → ℕ → Spot) → Csr → ℕ → ℕ → Position
row_position b lay m i s = record {
  target = b.target i (row_column m i s);
  how = b.how;
  product = b.product i (row_column m i s);
  entries = if nat_lt s (count m i) then b.value (m.first i + s) ∷ [] else [];
  cell = lay i s;
}

-- the cells of the first n rows, row by row
abbrev pub rows_before : Body → (ℕ → ℕ → Spot) → Csr → ℕ → List Position
rows_before b lay m zero = []
rows_before b lay m (suc n) = rows_before b lay m n ++ map (row_position b lay m n) (upto (width m))

abbrev pub row_positions : Body → (ℕ → ℕ → Spot) → Csr → List Position
row_positions b lay m = rows_before b lay m m.rows
