-- The extents of arrays, by dimension.
use Rattle.std.specs.Prelude.{ℕ, zero, suc, Bool, true, cond, nat_eq, bytes_eq, List, [], ◌∷◌, ◌++◌, ℤ, pos, slice_get, Option, Some, None}
use Rattle.c_tree.specs.declared.index.Index.{Index}
use Rattle.c_tree.specs.declared.program.Array.{Array}
use Rattle.c_tree.specs.declared.program.Matrix.{Matrix}
use Rattle.c_tree.specs.declared.program.Program.{Program}
use Rattle.int_rows.specs.declared.row.Aff.{Aff}
use Rattle.nest_tree.specs.declared.made.Made.{Made}
use Rattle.nest_tree.specs.declared.made.MadeWhat.{MadeWhat}
use Rattle.nest_tree.specs.declared.made.MadeWhat.TheVariants.{Pointer, Kept, Count, Mark, Width, Columns, Block, Diag, Padded, Copy}
use Rattle.nest_core.specs.Forms.{has_vars}
use Rattle.nest_systems.specs.Ranges.{Names, of_one, of_none}
use Rattle.nest_systems.specs.Extents.{extent_form}
use Rattle.datacopy.specs.declared.extents.Extent.{Extent}

abbrev pub mapped : {A B : Type 0} → (A → B) → Option A → Option B
mapped f (Some x) = Some (f x)
mapped f None = None

-- a form of the parameters, a number, the first cell of an array, and the number of rows of a matrix
abbrev pub of_form : Aff → Extent
of_form f = record { form = f; count = None }

abbrev pub of_number : Names → ℤ → Extent
of_number params z = of_form (of_none params z)

abbrev pub of_count : Names → List ℕ → Extent
of_count params name = record { form = of_none params (pos 0); count = Some name }

abbrev pub of_rows : Names → Option Matrix → Option Extent
of_rows params (Some m) = Some (of_form (of_one params m.rows (pos 0)))
of_rows params None = None

-- that of the first dimension, of the second or of the third
abbrev pub by_dimension : ℕ → Option Extent → Option Extent → Option Extent → Option Extent
by_dimension d a b c = cond (nat_eq d 0) a (cond (nat_eq d 1) b (cond (nat_eq d 2) c None))

-- of an array that a command made; one that holds no data has none
abbrev pub extent_made : Names → Option Matrix → ℕ → MadeWhat → Option Extent
extent_made params m d (Block count rows cols) = by_dimension d (Some (of_count params count)) (Some (of_number params rows)) (Some (of_number params cols))
extent_made params m d (Diag count) = by_dimension d (Some (of_count params count)) (of_rows params m) None
extent_made params m d (Padded width) = by_dimension d (of_rows params m) (Some (of_count params width)) None
extent_made params m d (Copy extents) = mapped (of_number params) (slice_get extents d)
extent_made params m d (Pointer rows count) = None
extent_made params m d (Kept c s0 divisor count) = None
extent_made params m d Count = None
extent_made params m d Mark = None
extent_made params m d Width = None
extent_made params m d (Columns width) = None

-- of an array of the signature, where it is affine in the parameters
abbrev pub extent_signature : Names → Option Index → Option Extent
extent_signature params (Some e) = mapped of_form (extent_form params e)
extent_signature params None = None

-- of the first array of this name, of the signature or made
abbrev pub among_made : Program → List ℕ → ℕ → List Made → Option Extent
among_made head array d [] = None
among_made head array d (m ∷ made) =
    cond (bytes_eq m.name array) (extent_made head.params (slice_get head.matrices m.matrix) d m.what) (among_made head array d made)

abbrev pub among_arrays : Program → List Made → List ℕ → ℕ → List Array → Option Extent
among_arrays head made array d [] = among_made head array d made
among_arrays head made array d (a ∷ arrays) =
    cond (bytes_eq a.name array) (extent_signature head.params (slice_get a.extents d)) (among_arrays head made array d arrays)

unfoldable pub extent_at : Program → List Made → List ℕ → ℕ → Option Extent
extent_at head made array d = among_arrays head made array d head.arrays

-- the extents in the first so many dimensions
abbrev pub extents_of : Program → List Made → List ℕ → ℕ → List (Option Extent)
extents_of head made array zero = []
extents_of head made array (suc d) = extents_of head made array d ++ extent_at head made array d ∷ []

-- the extent, where it is known, is over so many parameters
abbrev pub is_extent_over : ℕ → Option Extent → Bool
is_extent_over n None = true
is_extent_over n (Some e) = has_vars n e.form

-- the first array whose first cell is an extent
abbrev pub first_count : Option (List ℕ) → Option (List ℕ) → Option (List ℕ)
first_count (Some name) other = Some name
first_count None other = other

abbrev pub count_of : List (Option Extent) → Option (List ℕ)
count_of [] = None
count_of (None ∷ es) = count_of es
count_of (Some e ∷ es) = first_count e.count (count_of es)
