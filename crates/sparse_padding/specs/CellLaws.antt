-- Each entry falls on exactly one padded cell.
use Rattle.std.specs.Prelude.{◌≡◌, ℕ, ◌+◌, ◌<◌}
use Rattle.c_meaning.specs.Memory.{Spot}
use Rattle.sparse_marks.specs.Matrices.{Csr, IsCsr, count}
use Rattle.sparse_padding.specs.PaddedCells.{padded_blocks, padded_diagonals, how_often}

abbrev pub EntriesFallOnBlocksOnce : Type 0
EntriesFallOnBlocksOnce =
    (rows cols : ℕ) (lay : ℕ → ℕ → ℕ → Spot) (m : Csr) → IsCsr m → 0 < rows → 0 < cols → (i k : ℕ) → i < m.rows → k < count m i
    → how_often i (m.col (m.first i + k)) (padded_blocks rows cols lay m) ≡ 1

abbrev pub EntriesFallOnDiagonalsOnce : Type 0
EntriesFallOnDiagonalsOnce =
    (lay : ℕ → ℕ → Spot) (m : Csr) → IsCsr m → (i k : ℕ) → i < m.rows → k < count m i
    → how_often i (m.col (m.first i + k)) (padded_diagonals lay m) ≡ 1
