-- A worked matrix whose single columns are kept row by row.
use Rattle.std.specs.Prelude.{ℕ, zero, suc, ◌+◌, ℤ, pos, List, [], ◌∷◌, ◌++◌, codes, if◌then◌else◌}
use Rattle.c_tree.specs.declared.index.Index.TheVariants.{Const, Var, At, Plus}
use Rattle.c_meaning.specs.Names.{Name, same_name, line}
use Rattle.c_meaning.specs.Memory.{Memory, Env}
use Rattle.c_meaning.specs.Run.{Outcome, run}
use Rattle.sparse_marks.specs.Matrices.{count}
use Rattle.sparse_marks.specs.Walks.{Walk}
use Rattle.sparse_marks.specs.Examples.{three_by_four}
use Rattle.inspector_runs.specs.Rules.{run_at}
use Rattle.inspector_runs.specs.Texts.{Arrays, Text, Loops, cell, marking_lines, kept_lines}
use Rattle.inspector_runs.specs.Shown.{long}

abbrev pub made : Arrays
made = record { ptr = codes "b_ptr"; val = codes "b_val"; num = codes "b_num"; mark = codes "b_mark" }

abbrev pub rows_name : Name
rows_name = codes "n"

abbrev pub index_name : Name
index_name = codes "index"

abbrev pub column_name : Name
column_name = codes "col"

abbrev pub row_name : Name
row_name = codes "i"

abbrev pub entry_name : Name
entry_name = codes "k"

-- an entry's value is its column, and its group is its row
abbrev pub text : Text
text = record {
  value = At (cell column_name (Var entry_name));
  from_low = At (cell column_name (Var entry_name));
  group = Var row_name;
  next_group = Plus (Var row_name) (Const (pos 1));
}

abbrev pub loops : Loops
loops = record { rows = rows_name; index = index_name; row = row_name; entry = entry_name }

abbrev pub parameters : ℕ → Env
parameters n x = if same_name rows_name x then pos n else pos 0

abbrev pub at_first : (ℕ → ℕ) → List ℤ → ℕ
at_first f (pos k ∷ is) = f k
at_first f _ = 0

-- the arrays of the matrix; the made ones are empty, or hold 0
abbrev pub extents : Name → List ℤ
extents x =
    if same_name index_name x then long (pos 4) else (if same_name column_name x then long (pos 5) else
    (if same_name made.val x then long (pos 0) else (if same_name made.num x then long (pos 1) else long (pos 4))))

abbrev pub memory : Memory
memory = record {
  extents = extents;
  index = λ x at. if same_name index_name x then pos (at_first three_by_four.first at) else (if same_name column_name x then pos (at_first three_by_four.col at) else pos 0);
  cells = λ x. 0;
}

-- the columns of the rows, each row a group
abbrev pub columns : Walk
columns = record { group = λ i. i; count = count three_by_four; value = λ i j. pos (three_by_four.col (three_by_four.first i + j)); rest = λ i j. []; worth = λ i j. 0 }

-- the run of the marking lines alone, and of all lines
abbrev pub marking : Outcome
marking = run_at (marking_lines made text loops) (parameters 3) [] 0 memory

abbrev pub keeping : ℕ → Outcome
keeping n = run (kept_lines made text loops (Const (pos 4)) (Const (pos 4))) (parameters n) memory

-- the first n cells of an index array
abbrev pub first_cells : Memory → Name → ℕ → List ℤ
first_cells m a zero = []
first_cells m a (suc n) = first_cells m a n ++ m.index a (line (pos n)) ∷ []
