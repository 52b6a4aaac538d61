-- What layouts hold.
use Rattle.std.specs.Prelude.{◌≡◌, ℕ, ◌+◌, ◌*◌, ◌≤◌, ◌<◌, ℤ, pos, negsuc, ◌+ℤ◌, List, [], ◌∷◌, ◌++◌, map, true, length}
use Rattle.sparse_marks.specs.Matrices.{Csr, wrapped, cell, count, entries}
use Rattle.sparse_marks.specs.Kept.{is_among, Placed, kept, position}
use Rattle.sparse_marks.specs.Forms.{placed}
use Rattle.sparse_marks.specs.Walks.{Walk, row_met, met_before, walk, marks_in, Rising}
use Rattle.sparse_layouts.specs.Layouts.{Cells, laying, layout, falls, total, blocks, in_block, diagonals, in_diagonal}
use Rattle.sparse_layouts.specs.Padded.{width}

-- the cell of each kept value is the sum of the entries that fall on it; cells at other positions hold 0
pub record HoldsSums (es : List Placed) (c : Cells) (length : ℕ) : Type 0 where
  pub sums : (g : ℕ) (w : ℤ) (o : List ℤ) → is_among w (kept g es) ≡ true → c (position g w es) o ≡ wrapped (total (falls g w o) es)
  pub zeros : (p : ℕ) (o : List ℤ) → length ≤ p → c p o ≡ 0

-- at every moment, behind j entries of row i
abbrev pub LayoutsHoldSums : Type 0
LayoutsHoldSums =
    (a : Walk) → Rising a.group → (i j : ℕ) → HoldsSums (met_before a i ++ row_met a i j) (laying a i (layout a i) j) (length (marks_in a i j).val)

-- cell (u, v) of the block of w in group g is the matrix's cell at row rows*g + u and column cols*w + v
abbrev pub BlocksHoldTheMatrix : Type 0
BlocksHoldTheMatrix =
    (rows cols : ℕ) (m : Csr) (g w u v : ℕ) → u < rows → v < cols
    → let es : List Placed = map (placed (blocks rows cols) (in_block rows cols)) (entries m) in
    is_among (pos w) (kept g es) ≡ true
    → layout (walk (blocks rows cols) (in_block rows cols) m) m.rows (position g (pos w) es) (pos u ∷ pos v ∷ []) ≡ cell m (g * rows + u) (w * cols + v)

-- the cell at a column that may be before the first
abbrev pub cell_at : Csr → ℕ → ℤ → ℕ
cell_at m i (pos j) = cell m i j
cell_at m i (negsuc k) = 0

-- cell i of the diagonal w is the matrix's cell at row i and column i + w
abbrev pub DiagonalsHoldTheMatrix : Type 0
DiagonalsHoldTheMatrix =
    (m : Csr) (w : ℤ) (i : ℕ)
    → let es : List Placed = map (placed diagonals in_diagonal) (entries m) in
    is_among w (kept 0 es) ≡ true
    → layout (walk diagonals in_diagonal m) m.rows (position 0 w es) (pos i ∷ []) ≡ cell_at m i (pos i +ℤ w)

-- the least number that no row passes
pub record IsWidth (m : Csr) (n w : ℕ) : Type 0 where
  pub covers : (i : ℕ) → i < n → count m i ≤ w
  pub least : (k : ℕ) → ((i : ℕ) → i < n → count m i ≤ k) → w ≤ k

abbrev pub WidthIsOfLongestRow : Type 0
WidthIsOfLongestRow = (m : Csr) → IsWidth m m.rows (width m)
