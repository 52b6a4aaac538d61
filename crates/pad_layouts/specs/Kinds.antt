-- The parts of statements over blocks, diagonals and padded rows.
use Rattle.std.specs.Prelude.{ℕ, ◌+◌, Bool, cond, List, [], ◌∷◌, ◌++◌, length, ℤ, pos, negsuc, neg_ℤ, ◌-ℤ◌, map, Option, Some, None}
use Rattle.c_tree.specs.declared.program.Matrix.{Matrix}
use Rattle.int_rows.specs.declared.row.Aff.{Aff}
use Rattle.nest_tree.specs.declared.body.Access.{Access}
use Rattle.nest_tree.specs.declared.kernel.KernelRow.{KernelRow}
use Rattle.nest_tree.specs.declared.kernel.Term.{Term}
use Rattle.pad_layouts.specs.declared.block.Sides.{Sides}
use Rattle.pad_layouts.specs.declared.parts.Parts.{Parts}
use Rattle.pad_layouts.specs.declared.parts.KeptArrays.{KeptArrays}
use Rattle.pad_layouts.specs.declared.parts.RowArrays.{RowArrays}
use Rattle.pad_layouts.specs.Forms.{one_at, form_with, one, two, fixed, bound}
use Rattle.pad_layouts.specs.Moved as moved
use Rattle.pad_layouts.specs.Moved.{kept_rows, with_missing}
use Rattle.pad_layouts.specs.Parts.{picks_of, read, kept_terms, pointer_rows}

abbrev pub is_pick : ℕ → Option ℕ → Bool
is_pick n p = moved.is_pick n p

-- ---- blocks: the levels are the group of rows, the place of a kept value, then row and column, or column and row
abbrev pub row_var : ℕ → Sides → ℕ
row_var params s = cond s.swapped (params + 3) (params + 2)

abbrev pub column_var : ℕ → Sides → ℕ
column_var params s = cond s.swapped (params + 2) (params + 3)

abbrev pub row_level : Sides → ℕ
row_level s = cond s.swapped 4 3

abbrev pub column_level : Sides → ℕ
column_level s = cond s.swapped 3 4

-- member - side*group >= 0 and side*group + side-1 - member >= 0, each unless there is such a bound
abbrev pub with_group : ℕ → ℕ → ℕ → ℕ → ℤ → List KernelRow → List KernelRow
with_group vars own member group side rows =
    with_missing own (two vars group side member (negsuc 0) (side -ℤ pos 1)) (with_missing own (two vars member (pos 1) group (neg_ℤ side) (pos 0)) rows)

-- the terms are the kept value, the begin of its group, and the group's end
unfoldable pub block_rows : ℕ → Sides → List (Option ℕ) → List KernelRow → List KernelRow
block_rows params s picks rows =
    with_group (params + 7) (column_level s) (column_var params s) (params + 4) s.cols
    (with_group (params + 7) (row_level s) (row_var params s) params s.rows
    (kept_rows params 4 (params + 4) picks rows ++ pointer_rows (params + 7) 2 (params + 1) (params + 5)))

-- the block, the row in it, the column in it
unfoldable pub block_cell : ℕ → Sides → List ℕ → Access
block_cell params s layout = record {
  array = layout;
  at = one (params + 7) (params + 1) (pos 0)
      ∷ two (params + 7) (row_var params s) (pos 1) params (neg_ℤ s.rows) (pos 0)
      ∷ two (params + 7) (column_var params s) (pos 1) (params + 4) (neg_ℤ s.cols) (pos 0)
      ∷ [];
}

abbrev pub block_picks : ℕ → List (Option ℕ)
block_picks params = picks_of params (Some params ∷ None ∷ Some (params + 2) ∷ Some (params + 3) ∷ Some (params + 1) ∷ None ∷ None ∷ [])

unfoldable pub block_parts : ℕ → Sides → KeptArrays → List KernelRow → Parts
block_parts params s arrays rows = record {
  depth = 4;
  picks = block_picks params;
  terms = kept_terms (params + 7) arrays (params + 1) (one (params + 7) params (pos 0)) (one (params + 7) params (pos 1));
  rows = block_rows params s (block_picks params) rows;
  cell = block_cell params s arrays.layout;
}

-- ---- diagonals: the levels are the place of a kept value, and the row; the column is the row and the kept value
-- the parameter of that name less 1, a variable, and another one where it differs
unfoldable pub below : List (List ℕ) → List ℕ → ℕ → ℕ → Aff
below params name row other = form_with (length params + 5) (map (one_at name) params) row (negsuc 0) other (negsuc 0) (negsuc 0)

-- the row and the column are those of the matrix
unfoldable pub square_rows : List (List ℕ) → Matrix → List KernelRow
square_rows params m =
    let vars = length params + 5 in
    let row = length params + 1 in
    let kept = length params + 2 in
    bound 2 (one vars row (pos 0))
    ∷ bound 2 (below params m.rows row row)
    ∷ bound 2 (two vars row (pos 1) kept (pos 1) (pos 0))
    ∷ bound 2 (below params m.cols row kept)
    ∷ []

unfoldable pub diag_cell : ℕ → List ℕ → Access
diag_cell params layout = record { array = layout; at = one (params + 5) params (pos 0) ∷ one (params + 5) (params + 1) (pos 0) ∷ [] }

abbrev pub diag_picks : ℕ → List (Option ℕ)
diag_picks params = picks_of params (None ∷ Some (params + 1) ∷ Some params ∷ None ∷ None ∷ [])

unfoldable pub diag_parts : List (List ℕ) → Matrix → KeptArrays → Parts
diag_parts params m arrays =
    let first = length params in
    record {
      depth = 2;
      picks = diag_picks first;
      terms = kept_terms (first + 5) arrays first (fixed (first + 5) (pos 0)) (fixed (first + 5) (pos 1));
      rows = square_rows params m ++ pointer_rows (first + 5) 1 first (first + 3);
      cell = diag_cell first arrays.layout;
    }

-- ---- padded rows: the levels are the row and the place in it; the read of a column is a term where the statement has one
abbrev pub row_vars : ℕ → Option ℕ → ℕ
row_vars params (Some v) = params + 4
row_vars params None = params + 3

abbrev pub row_picks : ℕ → Option ℕ → List (Option ℕ)
row_picks params (Some v) = picks_of params (Some params ∷ None ∷ None ∷ Some v ∷ [])
row_picks params None = picks_of params (Some params ∷ None ∷ None ∷ [])

abbrev pub row_cell : ℕ → ℕ → List ℕ → Access
row_cell vars params array = record { array = array; at = one vars params (pos 0) ∷ one vars (params + 1) (pos 0) ∷ [] }

abbrev pub column_term : ℕ → ℕ → List ℕ → Term
column_term vars params array = record { array = array; at = one vars params (pos 0) ∷ one vars (params + 1) (pos 0) ∷ [] }

abbrev pub row_terms : ℕ → RowArrays → Option ℕ → List Term
row_terms params arrays (Some v) = read arrays.width (fixed (params + 4) (pos 0)) ∷ column_term (params + 4) params arrays.columns ∷ []
row_terms params arrays None = read arrays.width (fixed (params + 3) (pos 0)) ∷ []

-- place >= 0 and width - 1 - place >= 0 behind the kept rows
unfoldable pub row_rows : ℕ → Option ℕ → List (Option ℕ) → List KernelRow → List KernelRow
row_rows params column picks rows =
    let vars = row_vars params column in
    kept_rows params 2 (params + 1) picks rows ++ (bound 2 (one vars (params + 1) (pos 0)) ∷ bound 2 (two vars (params + 2) (pos 1) (params + 1) (negsuc 0) (negsuc 0)) ∷ [])

unfoldable pub row_parts : ℕ → RowArrays → Option ℕ → List KernelRow → Parts
row_parts params arrays column rows = record {
  depth = 2;
  picks = row_picks params column;
  terms = row_terms params arrays column;
  rows = row_rows params column (row_picks params column) rows;
  cell = row_cell (row_vars params column) params arrays.layout;
}
