-- A statement over padded cells has the effect of the statement over the entries.
use Rattle.std.specs.Prelude.{◌≡◌, ◌⊎◌, ℕ, ◌+◌, ◌<◌, ◌≤◌, pos, Bool, true, false, List, [], ◌∷◌, map, length}
use Rattle.c_meaning.specs.Memory.{Spot, Cells}
use Rattle.c_meaning.specs.Ground.{effect, is_among, is_compound}
use Rattle.sparse_marks.specs.Matrices.{Csr, count, entries, cell}
use Rattle.sparse_marks.specs.Walks.{walk}
use Rattle.sparse_layouts.specs.Layouts.{layout, blocks, in_block, diagonals, in_diagonal}
use Rattle.sparse_layouts.specs.Padded.{width, row_value}
use Rattle.sparse_padding.specs.Products.{frame_reads}
use Rattle.sparse_padding.specs.Positions.{by_entry, padded, AreNumbers}
use Rattle.sparse_padding.specs.PaddedCells.{padded_blocks, padded_diagonals}
use Rattle.sparse_padding.specs.Bodies.{Body, Padded, entry_step, places_at, position_of, row_positions}

-- The statement is += or -=, its values are those of the matrix, and it writes no cell of the matrix or its layout.
pub record IsOver (matrix : Spot → Bool) (b : Body) (m : Csr) (s : Cells) : Type 0 where
  pub compound : is_compound b.how ≡ true
  pub values : (i j : ℕ) → i < m.rows → j < count m i → s (b.value (m.first i + j)) ≡ m.worth (m.first i + j)
  pub value_in : (k : ℕ) → matrix (b.value k) ≡ true
  pub outside : (i j : ℕ) → matrix (b.target i j) ≡ false

-- the product at a row and a column doesn't read its target, or there is at most one entry
abbrev pub IsUnread : Body → Csr → ℕ → ℕ → Type 0
IsUnread b m i j = (is_among (b.target i j) (frame_reads (b.product i j)) ≡ false) ⊎ (length (places_at i j (entries m)) ≤ 1)

-- each padded cell holds the matrix's cell that it stands for
pub record HoldsCell (matrix : Spot → Bool) (b : Body) (m : Csr) (s : Cells) (c : Padded) : Type 0 where
  pub held : s c.cell ≡ cell m c.row c.col
  pub cell_in : matrix c.cell ≡ true
  pub unread : IsUnread b m c.row c.col

abbrev pub HoldCells : (Spot → Bool) → Body → Csr → Cells → List Padded → Type 0
HoldCells matrix b m s [] = Unit
HoldCells matrix b m s (c ∷ cs) = HoldsCell matrix b m s c × HoldCells matrix b m s cs

-- one assignment for each padded cell has the effect of one for each entry that falls on them
abbrev pub PaddedCellsKeepEffect : Type 0
PaddedCellsKeepEffect =
    (matrix : Spot → Bool) (b : Body) (m : Csr) (s : Cells) (cs : List Padded) → AreNumbers s → IsOver matrix b m s → HoldCells matrix b m s cs
    → effect (padded (map (position_of b m) cs)) s ≡ effect (by_entry (map (position_of b m) cs)) s

-- the cells of blocks, and of diagonals, hold the layout
pub record HoldBlocks (matrix : Spot → Bool) (rows cols : ℕ) (lay : ℕ → ℕ → ℕ → Spot) (m : Csr) (s : Cells) : Type 0 where
  pub held : (p u v : ℕ) → s (lay p u v) ≡ layout (walk (blocks rows cols) (in_block rows cols) m) m.rows p (pos u ∷ pos v ∷ [])
  pub cell_in : (p u v : ℕ) → matrix (lay p u v) ≡ true

pub record HoldDiagonals (matrix : Spot → Bool) (lay : ℕ → ℕ → Spot) (m : Csr) (s : Cells) : Type 0 where
  pub held : (p i : ℕ) → s (lay p i) ≡ layout (walk diagonals in_diagonal m) m.rows p (pos i ∷ [])
  pub cell_in : (p i : ℕ) → matrix (lay p i) ≡ true

-- the padded cells of blocks, and of diagonals, hold the matrix; so one assignment for each has the effect of the entries
abbrev pub PaddedBlocksKeepEffect : Type 0
PaddedBlocksKeepEffect =
    (matrix : Spot → Bool) (b : Body) (rows cols : ℕ) (lay : ℕ → ℕ → ℕ → Spot) (m : Csr) (s : Cells)
    → 0 < rows → 0 < cols → AreNumbers s → IsOver matrix b m s → HoldBlocks matrix rows cols lay m s → ((i j : ℕ) → IsUnread b m i j)
    → effect (padded (map (position_of b m) (padded_blocks rows cols lay m))) s ≡ effect (by_entry (map (position_of b m) (padded_blocks rows cols lay m))) s

abbrev pub PaddedDiagonalsKeepEffect : Type 0
PaddedDiagonalsKeepEffect =
    (matrix : Spot → Bool) (b : Body) (lay : ℕ → ℕ → Spot) (m : Csr) (s : Cells)
    → AreNumbers s → IsOver matrix b m s → HoldDiagonals matrix lay m s → ((i j : ℕ) → IsUnread b m i j)
    → effect (padded (map (position_of b m) (padded_diagonals lay m))) s ≡ effect (by_entry (map (position_of b m) (padded_diagonals lay m))) s

-- the entries by padded rows are the entries in order
abbrev pub RowsPerformTheEntries : Type 0
RowsPerformTheEntries = (b : Body) (lay : ℕ → ℕ → Spot) (m : Csr) → by_entry (row_positions b lay m) ≡ map (entry_step b) (entries m)

-- the cells of padded rows hold the rows' values, and zeros
pub record HoldRows (matrix : Spot → Bool) (lay : ℕ → ℕ → Spot) (m : Csr) (s : Cells) : Type 0 where
  pub held : (i j : ℕ) → i < m.rows → j < width m → s (lay i j) ≡ row_value m i j
  pub cell_in : (i j : ℕ) → matrix (lay i j) ≡ true

-- one assignment for each cell of padded rows has the effect of one for each entry, in order
abbrev pub PaddedRowsKeepEffect : Type 0
PaddedRowsKeepEffect =
    (matrix : Spot → Bool) (b : Body) (lay : ℕ → ℕ → Spot) (m : Csr) (s : Cells) → AreNumbers s → IsOver matrix b m s → HoldRows matrix lay m s
    → effect (padded (row_positions b lay m)) s ≡ effect (map (entry_step b) (entries m)) s
