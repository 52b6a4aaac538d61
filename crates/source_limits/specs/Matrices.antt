-- The arrays of matrices.
use Rattle.std.specs.Prelude.{ℕ, Bool, false, ◌||◌, bytes_eq, List, [], ◌∷◌}
use Rattle.c_tree.specs.declared.program.Matrix.{Matrix}
use Rattle.source_limits.specs.declared.reads.Mention.{Mention}

-- the array holds the rows or the columns of a matrix
abbrev pub is_index_array : List Matrix → List ℕ → Bool
is_index_array [] a = false
is_index_array (m ∷ ms) a = (bytes_eq m.index a || bytes_eq m.col a) || is_index_array ms a

-- a term reads such an array
abbrev pub is_of_matrix : List Matrix → Mention → Bool
is_of_matrix ms m = is_index_array ms m.array.now
