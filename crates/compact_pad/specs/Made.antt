-- The arrays that a padding makes.
use Rattle.std.specs.Prelude.{ℕ, List, [], ◌∷◌, ◌++◌, ℤ, pos, negsuc}
use Rattle.nest_tree.specs.declared.made.Made.{Made}
use Rattle.nest_tree.specs.declared.made.MadeWhat.{MadeWhat}
use Rattle.nest_tree.specs.declared.made.MadeWhat.TheVariants.{Pointer, Kept, Count, Mark, Width, Columns, Block, Diag, Padded}
use Rattle.inspectors.specs.declared.names.RowNames.{RowNames}
use Rattle.compact_pad.specs.declared.names.KeptNames.{KeptNames}

abbrev pub array : List ℕ → ℕ → MadeWhat → Made
array name matrix what = record { name = name; matrix = matrix; what = what }

-- the kept values of floord(column + c*row, divisor) in groups of so many rows (0: in one), with their begins, number and marks
abbrev pub kept_arrays : KeptNames → ℕ → ℤ → ℤ → ℤ → List Made
kept_arrays b matrix rows c divisor =
    array b.marks.ptr matrix (Pointer rows b.marks.num)
    ∷ array b.marks.val matrix (Kept c (pos 0) divisor b.marks.num)
    ∷ array b.marks.num matrix Count
    ∷ array b.marks.mark matrix Mark
    ∷ []

abbrev pub block_arrays : KeptNames → ℕ → ℤ → ℤ → List Made
block_arrays b matrix rows cols = kept_arrays b matrix rows (pos 0) cols ++ array b.layout matrix (Block b.marks.num rows cols) ∷ []

abbrev pub diag_arrays : KeptNames → ℕ → List Made
diag_arrays b matrix = kept_arrays b matrix (pos 0) (negsuc 0) (pos 1) ++ array b.layout matrix (Diag b.marks.num) ∷ []

abbrev pub row_arrays : RowNames → ℕ → List Made
row_arrays b matrix = array b.wid matrix Width ∷ array b.lay matrix (Padded b.wid) ∷ array b.lcol matrix (Columns b.wid) ∷ []
