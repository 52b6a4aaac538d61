-- Padded rows in a memory.
use Rattle.std.specs.Prelude.{◌≡◌, ℕ, ◌+◌, ◌<◌, pos, Bool, false, ◌||◌, [], ◌∷◌}
use Rattle.c_tree.specs.declared.program.Matrix.{Matrix}
use Rattle.c_meaning.specs.Names.{Name, same_name, line}
use Rattle.c_meaning.specs.Memory.{Memory, Env, Spot}
use Rattle.c_meaning.specs.Run.{run}
use Rattle.inspectors.specs.declared.names.RowNames.{RowNames}
use Rattle.inspectors.specs.Rows.{padded_lines}
use Rattle.inspectors.specs.Trees.{row_name, entry_name}
use Rattle.sparse_marks.specs.Matrices.{Csr}
use Rattle.sparse_layouts.specs.Padded.{width, row_value, row_column}
use Rattle.inspector_runs.specs.Rules.{Goes}
use Rattle.inspector_runs.specs.Shown.{long, Spares}
use Rattle.inspector_laws.specs.Ready.{Holds, HoldsValues}

abbrev pub is_row_array : RowNames → Name → Bool
is_row_array b a = same_name b.wid a || (same_name b.lay a || same_name b.lcol a)

-- the made arrays have names of their own, and the loop variables aren't the matrix's number of rows
pub record RowNamesFit (x : Matrix) (b : RowNames) : Type 0 where
  pub wid_lay : same_name b.wid b.lay ≡ false
  pub wid_lcol : same_name b.wid b.lcol ≡ false
  pub lay_lcol : same_name b.lay b.lcol ≡ false
  pub index : is_row_array b x.index ≡ false
  pub col : is_row_array b x.col ≡ false
  pub value : is_row_array b x.value ≡ false
  pub row_rows : same_name row_name x.rows ≡ false
  pub entry_rows : same_name entry_name x.rows ≡ false

abbrev pub of_row : Name → ℕ → ℕ → Spot
of_row a i s = record { array = a; at = pos i ∷ pos s ∷ pos 0 ∷ [] }

-- the width is the length of the longest row, each row has its values and its columns, and all else is as it was
pub record LeftRows (b : RowNames) (base : Memory) (a : Csr) (m : Memory) : Type 0 where
  pub wid : m.index b.wid (line (pos 0)) ≡ pos (width a)
  pub wid_long : m.extents b.wid ≡ long (pos 1)
  pub lay_long : m.extents b.lay ≡ pos a.rows ∷ pos (width a) ∷ pos 1 ∷ []
  pub lcol_long : m.extents b.lcol ≡ pos a.rows ∷ pos (width a) ∷ pos 1 ∷ []
  pub values : (i s : ℕ) → i < a.rows → m.cells (of_row b.lay i s) ≡ row_value a i s
  pub columns : (i s : ℕ) → i < a.rows → m.index b.lcol (pos i ∷ pos s ∷ pos 0 ∷ []) ≡ pos (row_column a i s)
  pub others : Spares (is_row_array b) base m

-- the lines of padded rows: no fault, twice the rows and the entries as turns
abbrev pub RowLinesPadRows : Type 0
RowLinesPadRows =
    (x : Matrix) (b : RowNames) (c : Env) (m : Memory) (a : Csr)
    → Holds x c m a → HoldsValues x m a → RowNamesFit x b
    → Goes (run (padded_lines x b) c) m (a.rows + (a.rows + a.first a.rows)) (LeftRows b m a)
