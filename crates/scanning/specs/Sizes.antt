-- How large the values of forms can be.
use Rattle.std.specs.Prelude.{ℕ, ◌+◌, ◌*◌, ◌^◌, cond, bytes_eq, List, [], ◌∷◌, ℤ, unsigned_abs, Option, Some, None}
use Rattle.nest_tree.specs.declared.made.Made.{Made}
use Rattle.nest_tree.specs.declared.made.MadeWhat.{MadeWhat}
use Rattle.nest_tree.specs.declared.made.MadeWhat.TheVariants.{Pointer, Kept, Count, Mark, Width, Columns, Block, Diag, Padded, Copy}
use Rattle.scan_forms.specs.declared.reads.Read.{Read}

abbrev pub total : List ℕ → ℕ
total [] = 0
total (n ∷ ns) = n + total ns

abbrev pub sizes_from : (ℕ → ℕ) → ℕ → List ℤ → List ℕ
sizes_from size at [] = []
sizes_from size at (z ∷ zs) = unsigned_abs z * size at ∷ sizes_from size (at + 1) zs

-- the size of a kept value of floord(column + c*row + s0, divisor), and of every other cell of an index array
abbrev pub made_size : MadeWhat → ℕ
made_size (Kept c s0 divisor count) = (unsigned_abs c + 1) * 2 ^ 24 + unsigned_abs s0 + 1
made_size (Pointer rows count) = 2 ^ 24
made_size Count = 2 ^ 24
made_size Width = 2 ^ 24
made_size Mark = 2 ^ 24
made_size (Columns width) = 2 ^ 24
made_size (Block count rows cols) = 2 ^ 24
made_size (Diag count) = 2 ^ 24
made_size (Padded width) = 2 ^ 24
made_size (Copy extents) = 2 ^ 24

abbrev pub cell_size : List Made → List ℕ → ℕ
cell_size [] array = 2 ^ 24
cell_size (m ∷ ms) array = cond (bytes_eq m.name array) (made_size m.what) (cell_size ms array)

abbrev pub size_there : List Made → Option Read → ℕ
size_there made (Some r) = cell_size made r.array
size_there made None = 2 ^ 24

-- the sizes of the levels around a place, 0 for those that aren't there
abbrev pub Sizes : Type 0
Sizes = List ℕ
