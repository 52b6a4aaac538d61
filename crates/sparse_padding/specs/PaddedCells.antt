-- The padded cells of blocks and diagonals, in the order in which they are gone over.
use Rattle.std.specs.Prelude.{ℕ, ◌+◌, ◌-◌, ◌*◌, ◌/◌, ℤ, pos, negsuc, ◌+ℤ◌, Bool, false, ◌&&◌, List, [], ◌∷◌, map, length, if◌then◌else◌, nat_eq, nat_lt}
use Rattle.std.specs.List.{filter, flat_map}
use Rattle.c_meaning.specs.Memory.{Spot}
use Rattle.sparse_marks.specs.Matrices.{Csr}
use Rattle.sparse_marks.specs.Kept.{same, kept, start, nth}
use Rattle.sparse_marks.specs.Forms.{groups}
use Rattle.sparse_layouts.specs.Layouts.{blocks}
use Rattle.sparse_layouts.specs.Extents.{block_entries, diagonal_entries}
use Rattle.sparse_layouts.specs.Padded.{upto}
use Rattle.sparse_padding.specs.Bodies.{Padded}

-- the cell of a block at a row and a column: at the position, less the first row and the first column of the block
abbrev pub block_cell : ℕ → ℕ → (ℕ → ℕ → ℕ → Spot) → ℕ → ℕ → ℕ → Padded
block_cell rows cols lay p r j = record { row = r; col = j; cell = lay p (r - r / rows * rows) (j - j / cols * cols) }

-- the cells of the block of value w in group g: each row of the group, and each column of the value
abbrev pub cells_of_block : ℕ → ℕ → (ℕ → ℕ → ℕ → Spot) → Csr → ℕ → ℤ → ℕ → List Padded
cells_of_block rows cols lay m g w p =
    flat_map (λ r. map (block_cell rows cols lay p r) (filter (λ j. same (pos (j / cols)) w) (upto m.cols))) (filter (λ r. nat_eq (r / rows) g) (upto m.rows))

-- the blocks of a group, by their positions
abbrev pub blocks_of_group : ℕ → ℕ → (ℕ → ℕ → ℕ → Spot) → Csr → ℕ → List Padded
blocks_of_group rows cols lay m g =
    flat_map (λ q. cells_of_block rows cols lay m g (nth (kept g (block_entries rows cols m)) q) (start g (block_entries rows cols m) + q))
    (upto (length (kept g (block_entries rows cols m))))

abbrev pub padded_blocks : ℕ → ℕ → (ℕ → ℕ → ℕ → Spot) → Csr → List Padded
padded_blocks rows cols lay m = flat_map (blocks_of_group rows cols lay m) (upto (groups (blocks rows cols) m))

-- a number that may be below 0 is that of a column
abbrev pub is_column : ℕ → ℤ → Bool
is_column n (pos j) = nat_lt j n
is_column n (negsuc j) = false

abbrev pub column_of : ℤ → ℕ
column_of (pos j) = j
column_of (negsuc j) = 0

-- the cells of the diagonal w: each row whose column on it is one of the matrix
abbrev pub cells_of_diagonal : (ℕ → ℕ → Spot) → Csr → ℤ → ℕ → List Padded
cells_of_diagonal lay m w p =
    map (λ r. let c : Padded = record { row = r; col = column_of (pos r +ℤ w); cell = lay p r } in c) (filter (λ r. is_column m.cols (pos r +ℤ w)) (upto m.rows))

abbrev pub padded_diagonals : (ℕ → ℕ → Spot) → Csr → List Padded
padded_diagonals lay m = flat_map (λ q. cells_of_diagonal lay m (nth (kept 0 (diagonal_entries m)) q) q) (upto (length (kept 0 (diagonal_entries m))))

-- how many of the cells stand for a row and a column
abbrev pub how_often : ℕ → ℕ → List Padded → ℕ
how_often i j [] = 0
how_often i j (c ∷ cs) = (if nat_eq c.row i && nat_eq c.col j then 1 else 0) + how_often i j cs
