-- Layouts in a memory: blocks and diagonals.
use Rattle.std.specs.Prelude.{◌≡◌, ℕ, ◌+◌, ◌≤◌, ◌<◌, ℤ, pos, Bool, false, ◌||◌, List, [], ◌∷◌, ◌++◌, map}
use Rattle.c_tree.specs.declared.program.Matrix.{Matrix}
use Rattle.c_meaning.specs.Names.{Name, same_name, line}
use Rattle.c_meaning.specs.Memory.{Memory, Env, Spot}
use Rattle.c_meaning.specs.Run.{run}
use Rattle.inspectors.specs.declared.names.MarkNames.{MarkNames}
use Rattle.inspectors.specs.Marks.{block_lines, diag_lines}
use Rattle.sparse_marks.specs.Matrices.{Csr, entries}
use Rattle.sparse_marks.specs.Kept.{Placed, kept_before, start, nth}
use Rattle.sparse_marks.specs.Forms.{groups, placed}
use Rattle.sparse_layouts.specs.Layouts.{Cells, blocks, in_block, diagonals, in_diagonal}
use Rattle.sparse_layouts.specs.Laws.{HoldsSums}
use Rattle.inspector_runs.specs.Rules.{Goes}
use Rattle.inspector_runs.specs.Texts.{Arrays}
use Rattle.inspector_runs.specs.Shown.{long, is_made, Spares}
use Rattle.inspector_laws.specs.Ready.{Holds, HoldsValues, NamesFit, arrays_of, start_count, mark_count}

-- the layout has a name of its own
pub record LayoutNamesFit (x : Matrix) (b : Arrays) (lay : Name) : Type 0 where
  pub made : is_made b lay ≡ false
  pub index : same_name lay x.index ≡ false
  pub col : same_name lay x.col ≡ false
  pub value : same_name lay x.value ≡ false
  pub value_made : is_made b x.value ≡ false

-- a layout's cell by its position and the cell of the block; the subscripts of a diagonal end with a 0
abbrev pub lay_cell : Name → List ℤ → ℕ → List ℤ → Spot
lay_cell lay tail p o = record { array = lay; at = pos p ∷ (o ++ tail) }

abbrev pub cells_of : Name → List ℤ → Memory → Cells
cells_of lay tail m p o = m.cells (lay_cell lay tail p o)

-- the made arrays hold the kept values, with so many cells for the starts of groups and so many for marks, the layout holds the sums of the entries, and all else is as it was
pub record LaidOut (b : Arrays) (starts marks : ℤ) (lay : Name) (tail inner : List ℤ) (base : Memory) (es : List Placed) (groups : ℕ) (m : Memory) : Type 0 where
  pub ptr : (g : ℕ) → g ≤ groups → m.index b.ptr (line (pos g)) ≡ pos (start g es)
  pub val : (p : ℕ) → m.index b.val (line (pos p)) ≡ nth (kept_before groups es) p
  pub num : m.index b.num (line (pos 0)) ≡ pos (start groups es)
  pub mark_long : m.extents b.mark ≡ long marks
  pub ptr_long : m.extents b.ptr ≡ long starts
  pub val_long : m.extents b.val ≡ long (pos (start groups es))
  pub num_long : m.extents b.num ≡ long (pos 1)
  pub lay_long : m.extents lay ≡ pos (start groups es) ∷ inner
  pub sums : HoldsSums es (cells_of lay tail m) (start groups es)
  pub others : Spares (λ y. is_made b y || same_name lay y) base m

-- blocks of so many rows and columns
abbrev pub BlockLinesLeaveBlocks : Type 0
BlockLinesLeaveBlocks =
    (x : Matrix) (cols_first : Bool) (rows cols : ℕ) (b : MarkNames) (lay : Name) (c : Env) (m : Memory) (a : Csr)
    → Holds x c m a → HoldsValues x m a → NamesFit x (arrays_of b) → LayoutNamesFit x (arrays_of b) lay
    → 0 < rows → rows ≤ 64 → 0 < cols → cols ≤ 64
    → Goes (run (block_lines x cols_first (pos rows) (pos cols) b lay) c) m (a.rows + a.first a.rows)
    (LaidOut (arrays_of b) (start_count (blocks rows cols) a) (mark_count (blocks rows cols) a) lay [] (pos rows ∷ pos cols ∷ []) m (map (placed (blocks rows cols) (in_block rows cols)) (entries a)) (groups (blocks rows cols) a))

-- diagonals
abbrev pub DiagLinesLeaveDiagonals : Type 0
DiagLinesLeaveDiagonals =
    (x : Matrix) (cols_first : Bool) (b : MarkNames) (lay : Name) (c : Env) (m : Memory) (a : Csr)
    → Holds x c m a → HoldsValues x m a → NamesFit x (arrays_of b) → LayoutNamesFit x (arrays_of b) lay
    → Goes (run (diag_lines x cols_first b lay) c) m (a.rows + a.first a.rows)
    (LaidOut (arrays_of b) (start_count diagonals a) (mark_count diagonals a) lay (pos 0 ∷ []) (pos a.rows ∷ pos 1 ∷ []) m (map (placed diagonals in_diagonal) (entries a)) (groups diagonals a))
