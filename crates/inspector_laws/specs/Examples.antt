-- Worked matrices in a memory.
use Rattle.std.specs.Prelude.{ℕ, zero, suc, ℤ, pos, List, [], ◌∷◌, ◌++◌, ◌||◌, codes, false, if◌then◌else◌}
use Rattle.c_tree.specs.declared.program.Matrix.{Matrix}
use Rattle.c_meaning.specs.Names.{Name, same_name, line}
use Rattle.c_meaning.specs.Memory.{Memory, Env}
use Rattle.c_meaning.specs.Run.{Outcome, run}
use Rattle.inspectors.specs.declared.names.MarkNames.{MarkNames}
use Rattle.inspectors.specs.declared.names.RowNames.{RowNames}
use Rattle.inspectors.specs.Marks.{compact_lines, block_lines, diag_lines}
use Rattle.inspectors.specs.Rows.{padded_lines}
use Rattle.sparse_marks.specs.Matrices.{Csr}
use Rattle.sparse_marks.specs.Examples.{three_by_four}
use Rattle.sparse_marks.specs.Forms.{Form}
use Rattle.inspector_runs.specs.Shown.{long}
use Rattle.inspector_laws.specs.Ready.{compacted}
use Rattle.inspector_laws.specs.Padding.{of_row}

abbrev pub index_name : Name
index_name = codes "index"

abbrev pub column_name : Name
column_name = codes "col"

abbrev pub value_name : Name
value_name = codes "a"

abbrev pub rows_name : Name
rows_name = codes "n"

abbrev pub columns_name : Name
columns_name = codes "m"

abbrev pub names : Matrix
names = record { index = index_name; col = column_name; value = value_name; rows = rows_name; cols = columns_name; count = codes "nnz" }

-- the matrix's numbers of rows and columns
abbrev pub parameters : Csr → Env
parameters a x = if same_name rows_name x then pos a.rows else (if same_name columns_name x then pos a.cols else pos 0)

abbrev pub at_first : (ℕ → ℕ) → List ℤ → ℕ
at_first f (pos k ∷ is) = f k
at_first f _ = 0

-- the matrix in its arrays
abbrev pub memory : Csr → Memory
memory a = record {
  extents = λ x. if same_name index_name x then long (pos (suc a.rows)) else (if same_name column_name x || same_name value_name x then long (pos (a.first a.rows)) else []);
  index = λ x at. if same_name index_name x then pos (at_first a.first at) else (if same_name column_name x then pos (at_first a.col at) else pos 0);
  cells = λ x. if same_name value_name x.array then at_first a.worth x.at else 0;
}

abbrev pub made : MarkNames
made = record { ptr = codes "b_ptr"; val = codes "b_val"; num = codes "b_num"; mark = codes "b_mark" }

abbrev pub row_arrays : RowNames
row_arrays = record { wid = codes "b_wid"; lay = codes "b_lay"; lcol = codes "b_lcol" }

abbrev pub lay : Name
lay = codes "b_lay"

-- the runs of the lines of a compacted level, of padded rows, of blocks and of diagonals
abbrev pub compacting : Form → Outcome
compacting f = run (compact_lines (compacted names false f) made) (parameters three_by_four) (memory three_by_four)

abbrev pub padding : Outcome
padding = run (padded_lines names row_arrays) (parameters three_by_four) (memory three_by_four)

abbrev pub blocking : Csr → Outcome
blocking a = run (block_lines names false (pos 2) (pos 2) made lay) (parameters a) (memory a)

abbrev pub diagonals_of : Csr → Outcome
diagonals_of a = run (diag_lines names false made lay) (parameters a) (memory a)

-- the first n cells of an index array
abbrev pub first_cells : Memory → Name → ℕ → List ℤ
first_cells m a zero = []
first_cells m a (suc n) = first_cells m a n ++ m.index a (line (pos n)) ∷ []

-- so many rows of numbers, one behind the other
abbrev pub in_row : {A : Type 0} → (ℕ → ℕ → A) → ℕ → ℕ → List A
in_row f i zero = []
in_row f i (suc s) = in_row f i s ++ f i s ∷ []

abbrev pub table : {A : Type 0} → (ℕ → ℕ → A) → ℕ → ℕ → List A
table f zero w = []
table f (suc n) w = table f n w ++ in_row f n w

-- three rows of two cells
abbrev pub row_cells : Memory → List ℕ
row_cells m = table (λ i s. m.cells (of_row row_arrays.lay i s)) 3 2

abbrev pub row_columns : Memory → List ℤ
row_columns m = table (λ i s. m.index row_arrays.lcol (pos i ∷ pos s ∷ pos 0 ∷ [])) 3 2
