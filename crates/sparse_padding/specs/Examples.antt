-- Worked positions: y[0] += a * x[0], and x[0] += a * x[0].
use Rattle.std.specs.Prelude.{ℕ, pos, Bool, ◌||◌, List, [], ◌∷◌, if◌then◌else◌}
use Rattle.c_tree.specs.declared.statement.How.TheVariants.{Add}
use Rattle.c_meaning.specs.Names.{line}
use Rattle.c_meaning.specs.Memory.{Spot, same_spot, Cells}
use Rattle.c_meaning.specs.Ground.{load, Step}
use Rattle.sparse_padding.specs.Products.{Frame, hole, left, with_factor, with_each}
use Rattle.sparse_padding.specs.Positions.{Position}

abbrev pub cell_of : ℕ → ℕ → Spot
cell_of name k = record { array = name ∷ []; at = line (pos k) }

-- the cells a[0], a[1], b[0] to b[2], x[0] and y[0]
abbrev pub a : ℕ → Spot
a k = cell_of 97 k

abbrev pub b : ℕ → Spot
b k = cell_of 98 k

abbrev pub x : Spot
x = cell_of 120 0

abbrev pub y : Spot
y = cell_of 121 0

-- a is 2 3, b is 5 0 2, x is 10 and y is 1
abbrev pub held : Cells
held z =
    if same_spot z (a 0) then 2 else (if same_spot z (a 1) then 3 else (if same_spot z (b 0) then 5 else
    (if same_spot z (b 2) then 2 else (if same_spot z x then 10 else (if same_spot z y then 1 else 0)))))

-- a and b are the matrix and its layout
abbrev pub is_matrix : Spot → Bool
is_matrix z = same_spot z (a 0) || (same_spot z (a 1) || (same_spot z (b 0) || same_spot z (b 1)))

abbrev pub times_x : Frame
times_x = left hole (load x)

-- two entries fall on the first position, and none on the second
abbrev pub positions : List Position
positions =
    record { target = y; how = Add; product = times_x; entries = a 0 ∷ a 1 ∷ []; cell = b 0 }
    ∷ record { target = y; how = Add; product = times_x; entries = []; cell = b 1 } ∷ []

-- two entries of one column whose assignments read their target, and the one assignment with their sum
abbrev pub reading : List Step
reading = with_each x Add times_x (a 0 ∷ a 1 ∷ [])

abbrev pub reading_sum : Step
reading_sum = with_factor x Add times_x (b 0)

-- the first of them alone, and the one assignment with its value
abbrev pub reading_one : List Step
reading_one = with_each x Add times_x (a 0 ∷ [])

abbrev pub reading_cell : Step
reading_cell = with_factor x Add times_x (b 2)
