-- A matrix in the arrays of a memory, and a compacted level whose lines run on it.
use Rattle.std.specs.Prelude.{◌≡◌, ℕ, zero, suc, ◌≤◌, ◌<◌, ◌^◌, ℤ, pos, ◌+ℤ◌, ◌-ℤ◌, ◌*ℤ◌, Bool, false, unsigned_abs}
use Rattle.std.specs.Int.{int_div_euclid, int_min, int_max}
use Rattle.c_tree.specs.declared.program.Matrix.{Matrix}
use Rattle.c_meaning.specs.Names.{same_name, line}
use Rattle.c_meaning.specs.Memory.{Memory, Spot, Env}
use Rattle.inspectors.specs.declared.level.Compacted.{Compacted}
use Rattle.inspectors.specs.declared.level.Group.{Group}
use Rattle.inspectors.specs.declared.level.Group.TheVariants.{All, Rows}
use Rattle.inspectors.specs.declared.names.MarkNames.{MarkNames}
use Rattle.inspectors.specs.Trees.{row_name, entry_name}
use Rattle.sparse_marks.specs.Matrices.{Csr, IsCsr}
use Rattle.sparse_marks.specs.Forms.{Form, groups}
use Rattle.inspector_runs.specs.Texts.{Arrays}
use Rattle.inspector_runs.specs.Shown.{long, is_made, Apart}

-- the matrix's parameters and index arrays hold this matrix, which is within the limits of inputs
pub record Holds (x : Matrix) (c : Env) (m : Memory) (a : Csr) : Type 0 where
  pub is_csr : IsCsr a
  pub rows : c x.rows ≡ pos a.rows
  pub cols : c x.cols ≡ pos a.cols
  pub index : (r : ℕ) → r ≤ a.rows → m.index x.index (line (pos r)) ≡ pos (a.first r)
  pub col : (k : ℕ) → k < a.first a.rows → m.index x.col (line (pos k)) ≡ pos (a.col k)
  pub index_long : m.extents x.index ≡ long (pos (suc a.rows))
  pub col_long : m.extents x.col ≡ long (pos (a.first a.rows))
  pub rows_small : a.rows ≤ 2 ^ 24
  pub cols_small : a.cols ≤ 2 ^ 24
  pub entries_small : a.first a.rows ≤ 2 ^ 24

abbrev pub value_cell : Matrix → ℕ → Spot
value_cell x k = record { array = x.value; at = line (pos k) }

-- the matrix's array of values holds its entries' values
pub record HoldsValues (x : Matrix) (m : Memory) (a : Csr) : Type 0 where
  pub value : (k : ℕ) → k < a.first a.rows → m.cells (value_cell x k) ≡ a.worth k
  pub value_long : m.extents x.value ≡ long (pos (a.first a.rows))
  pub numbers : (k : ℕ) → k < a.first a.rows → a.worth k < 2 ^ 64

-- the made arrays have names of their own, and the loop variables aren't the matrix's parameters
pub record NamesFit (x : Matrix) (b : Arrays) : Type 0 where
  pub apart : Apart b
  pub index : is_made b x.index ≡ false
  pub col : is_made b x.col ≡ false
  pub row_rows : same_name row_name x.rows ≡ false
  pub row_cols : same_name row_name x.cols ≡ false
  pub entry_rows : same_name entry_name x.rows ≡ false
  pub entry_cols : same_name entry_name x.cols ≡ false

abbrev pub arrays_of : MarkNames → Arrays
arrays_of b = record { ptr = b.ptr; val = b.val; num = b.num; mark = b.mark }

-- a form with small numbers
pub record IsSmallForm (f : Form) : Type 0 where
  pub c : unsigned_abs f.c ≤ 64
  pub s0 : unsigned_abs f.s0 ≤ 2 ^ 20
  pub divisor : 0 < f.divisor

abbrev pub group_of : ℕ → Group
group_of zero = All
group_of (suc k) = Rows (pos (suc k))

-- how many values there are from the least to the greatest one that the form may have in the matrix
abbrev pub value_count : Form → Csr → ℤ
value_count f a =
    (int_div_euclid (((pos a.cols -ℤ pos 1) +ℤ f.s0) +ℤ (int_max (pos 0) f.c *ℤ (pos a.rows -ℤ pos 1))) (pos f.divisor)
    -ℤ int_div_euclid (f.s0 +ℤ (int_min (pos 0) f.c *ℤ (pos a.rows -ℤ pos 1))) (pos f.divisor))
    +ℤ pos 1

-- each of these values has a mark
abbrev pub mark_count : Form → Csr → ℤ
mark_count f a = int_max (pos 0) (value_count f a)

-- each group has a start, and there is one more for the end of the last
abbrev pub start_count : Form → Csr → ℤ
start_count f a = pos (suc (groups f a))

-- the compacted level of a matrix with this form
abbrev pub compacted : Matrix → Bool → Form → Compacted
compacted x cols_first f = record { matrix = x; cols_first = cols_first; form = record { c = f.c; s0 = f.s0; divisor = pos f.divisor }; group = group_of f.rows }
