-- What padded rows hold.
use Rattle.std.specs.Prelude.{◌≡◌, ℕ, ◌+◌, ◌-◌, ◌≤◌, ◌<◌, map}
use Rattle.sparse_marks.specs.Matrices.{Csr, IsCsr, Entry, front_of, count, wrapped, cell}
use Rattle.sparse_layouts.specs.Padded.{width, row_value, row_column, upto, in_column, filled}

-- the cells of a row: those of its entries in order, and zeros up to the width; the cells of a column are the matrix's cell
pub record HoldsRow (m : Csr) (i : ℕ) : Type 0 where
  pub entry : (s : ℕ) → s < count m i → (s < width m) × (row_value m i s ≡ m.worth (m.first i + s)) × (row_column m i s ≡ m.col (m.first i + s))
  pub padded : (s : ℕ) → count m i ≤ s → (row_value m i s ≡ 0) × (row_column m i s ≡ 0)
  pub values : map (row_value m i) (upto (width m)) ≡ filled (map (λ (e : Entry). e.worth) (front_of m i (count m i))) (width m - count m i)
  pub columns : map (row_column m i) (upto (width m)) ≡ filled (map (λ (e : Entry). e.col) (front_of m i (count m i))) (width m - count m i)
  pub cell : (j : ℕ) → wrapped (in_column m i j (width m)) ≡ cell m i j

abbrev pub RowsHoldTheMatrix : Type 0
RowsHoldTheMatrix = (m : Csr) (i : ℕ) → i < m.rows → HoldsRow m i

-- also where a row is filled up, its columns are columns of the matrix
abbrev pub ColumnsStayInside : Type 0
ColumnsStayInside = (m : Csr) → IsCsr m → (i s : ℕ) → i < m.rows → s < width m → row_column m i s < m.cols
