-- The piece that puts a level for the columns before one that goes over entries.
use Rattle.std.specs.Prelude.{ℕ, ◌+◌, ◌-◌, true, false, List, [], ◌∷◌, ◌++◌, length, map, insert, pos, negsuc, Option, Some, None}
use Rattle.std.specs.List.{range_with_len}
use Rattle.c_tree.specs.declared.program.Matrix.{Matrix}
use Rattle.int_rows.specs.declared.row.Aff.{Aff}
use Rattle.nest_tree.specs.declared.form.Form.{Form}
use Rattle.nest_tree.specs.declared.form.Form.TheVariants.{Other, Whole}
use Rattle.nest_tree.specs.declared.kernel.KernelRow.{KernelRow}
use Rattle.nest_tree.specs.declared.kernel.Nest.{Nest}
use Rattle.nest_tree.specs.declared.kernel.Term.{Term}
use Rattle.nest_tree.specs.declared.moves.Piece.{Piece}
use Rattle.nest_systems.specs.Ranges.{of_one}
use Rattle.affine_moves.specs.Change.{padded, unit}
use Rattle.make_dense.specs.declared.places.Places.{Places}
use Rattle.make_dense.specs.Forms.{difference, find_read}
use Rattle.make_dense.specs.Places.{vars, dense_var, entry_var, column_var, new_place}

-- where the variables will stand
unfoldable pub places_of : ℕ → Nest → ℕ → Matrix → Places
places_of params n level m = record {
  params = params;
  depth = length n.levels;
  terms = length n.terms;
  level = level;
  column = find_read m.col (params + (level - 1)) 0 n.terms;
}

-- the old level at place l as a form of the new variables
unfoldable pub old_form : Places → ℕ → Aff
old_form s l = unit (vars s) (s.params + new_place s.level l)

abbrev pub bound : ℕ → Aff → KernelRow
bound own form = record { row = record { equal = false; form = form }; own = own }

-- m - 1 - j
unfoldable pub below_columns : List (List ℕ) → Places → List ℕ → Aff
below_columns params s columns = record { coefs = (of_one params columns (pos 0)).coefs ++ padded (vars s - s.params) (s.level - 1) (negsuc 0 ∷ []); constant = negsuc 0 }

-- j - col[k] = 0
abbrev pub at_column : Places → KernelRow
at_column s = record { row = record { equal = true; form = difference (vars s) (dense_var s) (column_var s) }; own = 0 }

-- j >= 0, m - 1 - j >= 0 and j - col[k] = 0
abbrev pub dense_rows : List (List ℕ) → Places → List ℕ → List KernelRow
dense_rows params s columns = bound s.level (unit (vars s) (dense_var s)) ∷ bound s.level (below_columns params s columns) ∷ at_column s ∷ []

-- col[k]
abbrev pub column_read : Places → List ℕ → Term
column_read s array = record { array = array; at = unit (vars s) (entry_var s) ∷ [] }

abbrev pub terms_for : Option ℕ → Term → List Term
terms_for (Some k) t = []
terms_for None t = t ∷ []

-- col[k], where the statement doesn't read it
abbrev pub dense_terms : Places → List ℕ → List Term
dense_terms s array = terms_for s.column (column_read s array)

-- the new level of a whole statement is the column
abbrev pub dense_form : Option ℕ → Form
dense_form (Some k) = Whole (pos 0) (pos 1) (pos 0) (pos 0) (pos 1)
dense_form None = Other

-- the piece for a statement whose level goes over the entries of a row of the matrix; the new level's loop has one child
unfoldable pub dense_piece : List (List ℕ) → Nest → ℕ → Matrix → Piece
dense_piece params n level m =
    let s = places_of (length params) n level m in
    record {
      drops = [];
      terms = dense_terms s m.col;
      rows = dense_rows params s m.cols;
      old = map (old_form s) (range_with_len 0 s.depth);
      levels = insert n.levels (level - 1) (dense_form n.whole);
      positions = insert n.positions level 0;
    }
