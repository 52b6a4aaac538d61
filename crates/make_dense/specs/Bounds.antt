-- The bounds of a level that goes over the entries of a row.
use Rattle.std.specs.Prelude.{ℕ, suc, ◌+◌, ◌-◌, Bool, false, cond, nat_eq, ◌&&◌, ◌||◌, List, [], ◌∷◌, length, pos, negsuc, Option, Some, None}
use Rattle.c_tree.specs.declared.program.Matrix.{Matrix}
use Rattle.c_tree.specs.declared.program.Program.{Program}
use Rattle.int_rows.specs.declared.row.Aff.{Aff}
use Rattle.nest_tree.specs.declared.kernel.KernelRow.{KernelRow}
use Rattle.nest_tree.specs.declared.kernel.Nest.{Nest}
use Rattle.nest_tree.specs.declared.kernel.Term.{Term}
use Rattle.affine_moves.specs.Moves.{any_below}
use Rattle.make_dense.specs.declared.bounds.Side.{Side}
use Rattle.make_dense.specs.declared.bounds.Side.TheVariants.{Low, High}
use Rattle.make_dense.specs.Forms.{reads_at, is_difference}

-- the form is the level's bound on this side by the term, which is variable v: level - array[row], or array[row + 1] - 1 - level
unfoldable pub is_bound_by : Side → ℕ → List ℕ → ℕ → Aff → ℕ → Term → Bool
is_bound_by Low level array row f v t = reads_at array row (pos 0) t && is_difference level v (pos 0) f
is_bound_by High level array row f v t = reads_at array row (pos 1) t && is_difference v level (negsuc 0) f

-- that is so for one of the terms, which are the variables from v on
abbrev pub is_bound : Side → ℕ → List ℕ → ℕ → Aff → ℕ → List Term → Bool
is_bound side level array row f v [] = false
is_bound side level array row f v (t ∷ ts) = is_bound_by side level array row f v t || is_bound side level array row f (suc v) ts

-- the forms are the level's bounds by the places at which the row's entries begin and end
unfoldable pub are_entries : ℕ → List Term → ℕ → List ℕ → Aff → Aff → ℕ → Bool
are_entries first terms level array low high row = is_bound Low level array row low first terms && is_bound High level array row high first terms

-- that is so for one of so many levels before this one as the row
unfoldable pub have_row : ℕ → ℕ → ℕ → List Term → Aff → Aff → List ℕ → Bool
have_row params before first terms low high array = any_below (λ p. are_entries first terms (params + before) array low high (params + p)) before

-- the first of the matrices for which that is so
abbrev pub matrix_over : ℕ → ℕ → ℕ → List Term → Aff → Aff → List Matrix → Option Matrix
matrix_over params before first terms low high [] = None
matrix_over params before first terms low high (m ∷ ms) = cond (have_row params before first terms low high m.index) (Some m) (matrix_over params before first terms low high ms)

-- the forms of the bounds that were made for the level
abbrev pub bounds_of : ℕ → List KernelRow → List Aff
bounds_of level [] = []
bounds_of level (r ∷ rs) = cond (nat_eq r.own level) (r.row.form ∷ bounds_of level rs) (bounds_of level rs)

-- the matrix over whose rows' entries a level with these bounds goes
abbrev pub matrix_by : ℕ → Nest → ℕ → List Matrix → List Aff → Option Matrix
matrix_by params n level ms [] = None
matrix_by params n level ms (low ∷ []) = None
matrix_by params n level ms (low ∷ high ∷ []) = matrix_over params (level - 1) (params + length n.levels) n.terms low high ms
matrix_by params n level ms (low ∷ high ∷ more ∷ fs) = None

-- the matrix over whose rows' entries the level goes
abbrev pub matrix_of : Program → Nest → ℕ → Option Matrix
matrix_of head n level = matrix_by (length head.params) n level head.matrices (bounds_of level n.rows)
