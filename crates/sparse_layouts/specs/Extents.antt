-- The extents of layouts, against what is stored in them and read of them.
use Rattle.std.specs.Prelude.{◌≡◌, ℕ, ◌+◌, ◌-◌, ◌*◌, ◌/◌, ◌%◌, ◌≤◌, ◌<◌, ◌⊎◌, pos, List, [], ◌∷◌, map}
use Rattle.sparse_marks.specs.Matrices.{Csr, count, entries}
use Rattle.sparse_marks.specs.Kept.{Placed, position}
use Rattle.sparse_marks.specs.Forms.{groups, group_by, placed, value_at}
use Rattle.sparse_marks.specs.Walks.{walk}
use Rattle.sparse_marks.specs.Extents.{values_extent, IsBetween}
use Rattle.sparse_layouts.specs.Layouts.{layout, blocks, in_block, diagonals, in_diagonal}
use Rattle.sparse_layouts.specs.Padded.{width}

-- the subscripts are as many as the extents, and each is below its own
abbrev pub AreInside : List ℕ → List ℕ → Type 0
AreInside [] [] = Unit
AreInside [] (k ∷ ks) = ⊥
AreInside (n ∷ ns) [] = ⊥
AreInside (n ∷ ns) (k ∷ ks) = (k < n) × AreInside ns ks

-- as many blocks or diagonals as kept values, and the sizes of each; padded rows have the width
abbrev pub block_extents : ℕ → ℕ → Csr → List ℕ
block_extents rows cols m = values_extent (blocks rows cols) (in_block rows cols) m ∷ rows ∷ cols ∷ []

abbrev pub diagonal_extents : Csr → List ℕ
diagonal_extents m = values_extent diagonals in_diagonal m ∷ m.rows ∷ []

abbrev pub row_extents : Csr → List ℕ
row_extents m = m.rows ∷ width m ∷ []

abbrev pub block_entries : ℕ → ℕ → Csr → List Placed
block_entries rows cols m = map (placed (blocks rows cols) (in_block rows cols)) (entries m)

abbrev pub diagonal_entries : Csr → List Placed
diagonal_entries m = map (placed diagonals in_diagonal) (entries m)

-- where the j-th entry of row i is stored
abbrev pub block_store : ℕ → ℕ → Csr → ℕ → ℕ → List ℕ
block_store rows cols m i j =
    let c : ℕ = m.col (m.first i + j) in
    position (group_by rows i) (value_at (blocks rows cols) i c) (block_entries rows cols m) ∷ i % rows ∷ c % cols ∷ []

abbrev pub diagonal_store : Csr → ℕ → ℕ → List ℕ
diagonal_store m i j = position 0 (value_at diagonals i (m.col (m.first i + j))) (diagonal_entries m) ∷ i ∷ []

-- Blocks: stores and reads are inside, and a row or a column of a block is one of its group or its value. A read is at a
-- position of the row's group, at the row less the group's first and at the column less the first of the column's value.
pub record FitsBlocks (rows cols : ℕ) (m : Csr) : Type 0 where
  pub stored : (i j : ℕ) → i < m.rows → j < count m i → AreInside (block_extents rows cols m) (block_store rows cols m i j)
  pub read : (p r c : ℕ) → IsBetween (block_entries rows cols m) (groups (blocks rows cols) m) (r / rows) p
      → AreInside (block_extents rows cols m) (p ∷ (r - r / rows * rows) ∷ (c - c / cols * cols) ∷ [])
  pub each_row : (g u : ℕ) → u < rows → (g * rows + u) / rows ≡ g
  pub each_column : (w v : ℕ) → v < cols → (w * cols + v) / cols ≡ w
  pub outside : (p u v : ℕ) → (rows ≤ u) ⊎ (cols ≤ v) → layout (walk (blocks rows cols) (in_block rows cols) m) m.rows p (pos u ∷ pos v ∷ []) ≡ 0

abbrev pub BlocksFitTheirExtents : Type 0
BlocksFitTheirExtents = (rows cols : ℕ) (m : Csr) → 0 < rows → 0 < cols → FitsBlocks rows cols m

-- diagonals: a read is at a position and at a row
pub record FitsDiagonals (m : Csr) : Type 0 where
  pub stored : (i j : ℕ) → i < m.rows → j < count m i → AreInside (diagonal_extents m) (diagonal_store m i j)
  pub read : (p r : ℕ) → IsBetween (diagonal_entries m) (groups diagonals m) 0 p → r < m.rows → AreInside (diagonal_extents m) (p ∷ r ∷ [])
  pub each : (p r : ℕ) → AreInside (diagonal_extents m) (p ∷ r ∷ []) → IsBetween (diagonal_entries m) (groups diagonals m) 0 p × (r < m.rows)
  pub outside : (p i : ℕ) → m.rows ≤ i → layout (walk diagonals in_diagonal m) m.rows p (pos i ∷ []) ≡ 0

abbrev pub DiagonalsFitTheirExtents : Type 0
DiagonalsFitTheirExtents = (m : Csr) → FitsDiagonals m

-- padded rows: an entry is stored at its row and its place in the row
abbrev pub RowsFitTheirExtents : Type 0
RowsFitTheirExtents = (m : Csr) (i j : ℕ) → i < m.rows → j < count m i → AreInside (row_extents m) (i ∷ j ∷ [])
