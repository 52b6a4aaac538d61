-- A walk over the entries of a matrix, row by row, and the marks on it.
use Rattle.std.specs.Prelude.{◌≡◌, ◌⊎◌, ℕ, zero, suc, ◌+◌, ℤ, List, [], ◌∷◌, ◌++◌}
use Rattle.sparse_marks.specs.Matrices.{Csr, Entry, entry_at, count}
use Rattle.sparse_marks.specs.Kept.{Placed}
use Rattle.sparse_marks.specs.Forms.{Form, group_by, value_at}
use Rattle.sparse_marks.specs.Marks.{Marks, unmarked, see, close}

-- the entries by row and by place in the row
pub record Walk : Type 0 where
  pub group : ℕ → ℕ
  pub count : ℕ → ℕ
  pub value : ℕ → ℕ → ℤ
  pub rest : ℕ → ℕ → List ℤ
  pub worth : ℕ → ℕ → ℕ

-- the j-th entry of row i
abbrev pub met : Walk → ℕ → ℕ → Placed
met a i j = record { group = a.group i; value = a.value i j; rest = a.rest i j; worth = a.worth i j }

-- the first j entries of row i, and the entries of the first i rows
abbrev pub row_met : Walk → ℕ → ℕ → List Placed
row_met a i zero = []
row_met a i (suc j) = row_met a i j ++ met a i j ∷ []

abbrev pub met_before : Walk → ℕ → List Placed
met_before a zero = []
met_before a (suc i) = met_before a i ++ row_met a i (a.count i)

-- the walk over a matrix by a form, and the cells of its layout by `rest`
abbrev pub walk : Form → (Entry → List ℤ) → Csr → Walk
walk f rest m = record {
  group = λ i. group_by f.rows i;
  count = count m;
  value = λ i j. value_at f i (m.col (m.first i + j));
  rest = λ i j. rest (entry_at m i (m.first i + j));
  worth = λ i j. m.worth (m.first i + j);
}

-- the marks behind the first j values of a row of group g
abbrev pub seeing : ℕ → (ℕ → ℤ) → Marks → ℕ → Marks
seeing g value s zero = s
seeing g value s (suc j) = see g (seeing g value s j) (value j)

-- the marks behind i rows, and behind j entries of row i
abbrev pub rows_seen : (ℕ → ℕ) → (ℕ → ℕ) → (ℕ → ℕ → ℤ) → ℕ → Marks
rows_seen group count value zero = unmarked
rows_seen group count value (suc i) = close (group i) (seeing (group i) (value i) (rows_seen group count value i) (count i))

abbrev pub marks_of : Walk → ℕ → Marks
marks_of a i = rows_seen a.group a.count a.value i

abbrev pub marks_in : Walk → ℕ → ℕ → Marks
marks_in a i j = seeing (a.group i) (a.value i) (marks_of a i) j

-- the groups of the rows rise from 0 by at most 1
pub record Rising (group : ℕ → ℕ) : Type 0 where
  pub begin : group 0 ≡ 0
  pub next : (i : ℕ) → (group (suc i) ≡ group i) ⊎ (group (suc i) ≡ suc (group i))

-- the sum of the first i numbers
abbrev pub sum_below : (ℕ → ℕ) → ℕ → ℕ
sum_below f zero = 0
sum_below f (suc i) = sum_below f i + f i
