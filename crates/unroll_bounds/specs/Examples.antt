-- A worked case: for i from 0 to below n, y[i] = 1.
use Rattle.std.specs.Prelude.{◌≡◌, false, [], ◌∷◌, ℤ, pos, negsuc, None, Some}
use Rattle.int_rows.specs.declared.row.Aff.{Aff}
use Rattle.c_tree.specs.declared.program.Program.{Program}
use Rattle.c_tree.specs.declared.statement.How.TheVariants.{Write}
use Rattle.nest_tree.specs.declared.kernel.Nest.{Nest}
use Rattle.nest_tree.specs.declared.kernel.KernelRow.{KernelRow}
use Rattle.nest_tree.specs.declared.moves.Piece.{Piece}
use Rattle.nest_tree.specs.declared.body.Body.TheVariants.{Const}
use Rattle.nest_tree.specs.declared.form.Form.TheVariants.{Other}
use Rattle.nest_tree.specs.Lists.{IsIn, Pairwise}
use Rattle.nest_tree.specs.Pieces.{IsLike}
use Rattle.nest_tree.specs.Unrolling.{full}
use Rattle.nest_core.specs.Shapes.{IsShapedNest}
use Rattle.affine_moves.specs.Change.{bound}
use Rattle.unroll_laws.specs.Grouping.{UpperRow, IsBounded, IsRowOf, group_forms, level_forms}
use Rattle.unroll.specs.declared.bounds.Bounds.{Bounds}
use Rattle.unroll.specs.Bounds.{bounds_of}
use Rattle.unroll.specs.Unrolled.{full_piece}
use Rattle.unroll_bounds.specs.Laws.{low_of, upper_of}
use Rattle.unroll_bounds.specs.Copies.{IsSmall, value_at}

-- one parameter, n
abbrev pub head : Program
head = record { name = 102 ∷ []; matrices = []; params = (110 ∷ []) ∷ []; arrays = []; inspector = []; executor = [] }

-- a form of n and i
abbrev pub form : ℤ → ℤ → ℤ → Aff
form n i k = record { coefs = n ∷ i ∷ []; constant = k }

abbrev pub low : Aff
low = form (pos 0) (pos 1) (pos 0)

abbrev pub high : Aff
high = form (pos 1) (negsuc 0) (negsuc 0)

abbrev pub ones : Nest
ones = record {
  levels = Other ∷ [];
  positions = 0 ∷ 0 ∷ [];
  terms = [];
  rows = record { row = record { form = low; equal = false }; own = 1 } ∷ record { row = record { form = high; equal = false }; own = 1 } ∷ [];
  target = record { array = 121 ∷ []; at = low ∷ [] };
  how = Write;
  value = Const 1;
  whole = None;
}

abbrev pub bounds : Bounds
bounds = record { lower = low; uppers = high ∷ []; places = 0 ∷ 1 ∷ [] }

-- its two rows are found, so i is from 0 to at most n-1
abbrev pub WorkedBounds : Type 0
WorkedBounds =
    IsShapedNest head ones × (bounds_of 1 1 ones ≡ Some bounds)
    × (low_of 1 low ≡ form (pos 0) (pos 0) (pos 0)) × (upper_of 1 high ≡ record { less_one = 0; bound = form (pos 1) (pos 0) (negsuc 0) })
    × IsBounded 1 0 (form (pos 0) (pos 0) (pos 0)) (record { less_one = 0; bound = form (pos 1) (pos 0) (negsuc 0) } ∷ []) ones

-- the copy i = 4*q + 1
abbrev pub copy : Piece
copy = full_piece 1 1 4 1 ones bounds (0 ∷ 1 ∷ [])

-- its rows are q >= 0 and n-1-(4*q+3) >= 0, no number is large, and so its form and rows are those of the law
abbrev pub WorkedCopy : Type 0
WorkedCopy =
    (copy.old ≡ form (pos 0) (pos 4) (pos 1) ∷ []) × (copy.rows ≡ bound 1 (form (pos 0) (pos 1) (pos 0)) ∷ bound 1 (form (pos 1) (negsuc 3) (negsuc 3)) ∷ [])
    × IsSmall (value_at 1 4 bounds (pos 1)) × IsSmall (value_at 1 4 bounds (pos 3)) × ((r : KernelRow) → IsIn r copy.rows → IsSmall (r.row).form)
    × Pairwise IsLike copy.old (level_forms full 4 1 1 0 1 (low_of 1 low)) × Pairwise IsRowOf copy.rows (group_forms full 4 1 1 (low_of 1 low) (upper_of 1 high ∷ []))
