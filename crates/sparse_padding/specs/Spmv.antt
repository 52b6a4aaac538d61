-- y[i] += a[k] * x[col[k]] on worked matrices: the memory with a layout, and what is left in y.
use Rattle.std.specs.Prelude.{ℕ, zero, suc, ℤ, pos, negsuc, Bool, ◌||◌, List, [], ◌∷◌, map, if◌then◌else◌}
use Rattle.c_tree.specs.declared.statement.How.TheVariants.{Add}
use Rattle.c_meaning.specs.Names.{same_name}
use Rattle.c_meaning.specs.Memory.{Spot, Cells}
use Rattle.c_meaning.specs.Ground.{Step, load, effect}
use Rattle.sparse_marks.specs.Matrices.{Csr, entries}
use Rattle.sparse_marks.specs.Walks.{walk}
use Rattle.sparse_marks.specs.Examples.{numbers, matrix}
use Rattle.sparse_layouts.specs.Layouts.{layout, blocks, in_block, diagonals, in_diagonal}
use Rattle.sparse_layouts.specs.Padded.{row_value, upto}
use Rattle.sparse_padding.specs.Products.{hole, left, with_factor}
use Rattle.sparse_padding.specs.Positions.{padded}
use Rattle.sparse_padding.specs.Bodies.{Body, Padded, entry_step, position_of, row_positions}
use Rattle.sparse_padding.specs.PaddedCells.{padded_blocks, padded_diagonals}
use Rattle.sparse_padding.specs.Examples.{cell_of}

-- the statement; a is 97, x is 120, y is 121, and the layout is 98
abbrev pub spmv : Body
spmv = record { target = λ i j. cell_of 121 i; how = Add; product = λ i j. left hole (load (cell_of 120 j)); value = λ k. cell_of 97 k }

abbrev pub lay_cell : ℕ → ℕ → ℕ → Spot
lay_cell i j k = record { array = 98 ∷ []; at = pos i ∷ pos j ∷ pos k ∷ [] }

abbrev pub lay_row : ℕ → ℕ → Spot
lay_row i j = lay_cell i j 0

-- a is the matrix and the layout is its layout
abbrev pub is_matrix : Spot → Bool
is_matrix z = same_name z.array (97 ∷ []) || same_name z.array (98 ∷ [])

abbrev pub number : ℤ → ℕ
number (pos n) = n
number (negsuc n) = 0

-- the k-th subscript
abbrev pub subscript : List ℤ → ℕ → ℕ
subscript [] k = 0
subscript (i ∷ is) zero = number i
subscript (i ∷ is) (suc k) = subscript is k

abbrev pub memory : Csr → (ℕ → ℕ → ℕ → ℕ) → List ℕ → List ℕ → Cells
memory m lay x y z =
    if same_name z.array (97 ∷ []) then m.worth (subscript z.at 0) else
    (if same_name z.array (98 ∷ []) then lay (subscript z.at 0) (subscript z.at 1) (subscript z.at 2) else
    (if same_name z.array (120 ∷ []) then numbers x (subscript z.at 0) else (if same_name z.array (121 ∷ []) then numbers y (subscript z.at 0) else 0)))

-- x is 1 2 3 4 and y is 0 0 0
abbrev pub x_cells : List ℕ
x_cells = 1 ∷ 2 ∷ 3 ∷ 4 ∷ []

abbrev pub y_cells : List ℕ
y_cells = 0 ∷ 0 ∷ 0 ∷ []

abbrev pub with_rows : Csr → List ℕ → List ℕ → Cells
with_rows m x y = memory m (λ i j k. row_value m i j) x y

abbrev pub with_blocks : Csr → List ℕ → List ℕ → Cells
with_blocks m x y = memory m (λ p u v. layout (walk (blocks 2 2) (in_block 2 2) m) m.rows p (pos u ∷ pos v ∷ [])) x y

abbrev pub with_diagonals : Csr → List ℕ → List ℕ → Cells
with_diagonals m x y = memory m (λ p i k. layout (walk diagonals in_diagonal m) m.rows p (pos i ∷ [])) x y

-- the assignments of all entries in order, and of all padded cells of blocks
abbrev pub of_entries : Body → Csr → List Step
of_entries b m = map (entry_step b) (entries m)

abbrev pub of_blocks : Body → Csr → List Step
of_blocks b m = padded (map (position_of b m) (padded_blocks 2 2 lay_cell m))

-- the padded assignments
abbrev pub by_rows : Csr → List Step
by_rows m = padded (row_positions spmv lay_row m)

abbrev pub by_blocks : Csr → List Step
by_blocks m = of_blocks spmv m

abbrev pub by_diagonals : Csr → List Step
by_diagonals m = padded (map (position_of spmv m) (padded_diagonals lay_row m))

-- y behind a list
abbrev pub left_in : Csr → List Step → Cells → List ℕ
left_in m ts s = map (λ i. effect ts s (cell_of 121 i)) (upto m.rows)

-- x[col[k]] += a[k] * x[col[k]], and a row with two entries of 1 in its one column
abbrev pub reading_body : Body
reading_body = record { target = λ i j. cell_of 120 j; how = Add; product = λ i j. left hole (load (cell_of 120 j)); value = λ k. cell_of 97 k }

abbrev pub twice_one : Csr
twice_one = matrix 1 1 (0 ∷ 2 ∷ []) (0 ∷ 0 ∷ []) (1 ∷ 1 ∷ [])

-- the first padded assignment and the last padded cell of the blocks of three_by_four, the entries' assignments of empty_between, and its second padded one
abbrev pub first_of_blocks : Step
first_of_blocks = with_factor (cell_of 121 0) Add (left hole (load (cell_of 120 0))) (lay_cell 0 0 0)

abbrev pub last_of_blocks : Padded
last_of_blocks = record { row = 2; col = 3; cell = lay_cell 3 0 1 }

abbrev pub two_entries : List Step
two_entries = with_factor (cell_of 121 0) Add (left hole (load (cell_of 120 0))) (cell_of 97 0) ∷ with_factor (cell_of 121 2) Add (left hole (load (cell_of 120 1))) (cell_of 97 1) ∷ []

abbrev pub padded_zero : Step
padded_zero = with_factor (cell_of 121 1) Add (left hole (load (cell_of 120 0))) (lay_cell 1 0 0)
