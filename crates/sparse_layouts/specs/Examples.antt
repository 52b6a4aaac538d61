-- Layouts of worked matrices, as lists of cells.
use Rattle.std.specs.Prelude.{ℕ, pos, List, [], ◌∷◌, ◌++◌, map}
use Rattle.sparse_marks.specs.Matrices.{Csr, entries}
use Rattle.sparse_marks.specs.Forms.{groups, placed}
use Rattle.sparse_marks.specs.Kept.{start}
use Rattle.sparse_marks.specs.Walks.{walk}
use Rattle.sparse_layouts.specs.Layouts.{layout, blocks, in_block, diagonals, in_diagonal}
use Rattle.sparse_layouts.specs.Padded.{width, row_value, row_column, upto}

abbrev pub joined : List (List ℕ) → List ℕ
joined [] = []
joined (l ∷ ls) = l ++ joined ls

-- the blocks of two rows and two columns, one behind the other
abbrev pub block_cells : Csr → List ℕ
block_cells m =
    joined (map (λ p. map (λ o. layout (walk (blocks 2 2) (in_block 2 2) m) m.rows p o)
    ((pos 0 ∷ pos 0 ∷ []) ∷ (pos 0 ∷ pos 1 ∷ []) ∷ (pos 1 ∷ pos 0 ∷ []) ∷ (pos 1 ∷ pos 1 ∷ []) ∷ []))
    (upto (start (groups (blocks 2 2) m) (map (placed (blocks 2 2) (in_block 2 2)) (entries m)))))

-- the diagonals, one behind the other
abbrev pub diagonal_cells : Csr → List ℕ
diagonal_cells m =
    joined (map (λ p. map (λ i. layout (walk diagonals in_diagonal m) m.rows p (pos i ∷ [])) (upto m.rows))
    (upto (start (groups diagonals m) (map (placed diagonals in_diagonal) (entries m)))))

-- the padded rows, one behind the other: values, and columns
abbrev pub row_values : Csr → List ℕ
row_values m = joined (map (λ i. map (row_value m i) (upto (width m))) (upto m.rows))

abbrev pub row_columns : Csr → List ℕ
row_columns m = joined (map (λ i. map (row_column m i) (upto (width m))) (upto m.rows))
