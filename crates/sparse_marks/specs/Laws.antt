-- What kept values are, and that marks find them.
use Rattle.std.specs.Prelude.{◌≡◌, ℕ, suc, ◌+◌, ◌≤◌, ◌<◌, ℤ, ◌≤ℤ◌, Bool, true, false, not, ◌&&◌, ◌||◌, List, [], ◌∷◌, ◌++◌, map, length, nat_eq, nat_le}
use Rattle.sparse_marks.specs.Matrices.{Csr, Entry, entries}
use Rattle.sparse_marks.specs.Kept.{same, is_among, Placed, values, kept, kept_before, start, standing, position, nth}
use Rattle.sparse_marks.specs.Forms.{Form, groups, placed, value_at, least_value, greatest_value}
use Rattle.sparse_marks.specs.Marks.{Marks}
use Rattle.sparse_marks.specs.Walks.{Walk, row_met, met_before, walk, marks_of, marks_in, Rising}

abbrev pub AreDistinct : List ℤ → Type 0
AreDistinct [] = Unit
AreDistinct (k ∷ ks) = (is_among k ks ≡ false) × AreDistinct ks

-- an entry of the group has the value
abbrev pub has : ℕ → ℤ → List Placed → Bool
has g w [] = false
has g w (e ∷ es) = (nat_eq e.group g && same e.value w) || has g w es

-- the kept values of a group are those of its entries, each once, in order of first appearance
pub record KeepsEach (g : ℕ) (es : List Placed) : Type 0 where
  pub complete : (w : ℤ) → is_among w (kept g es) ≡ has g w es
  pub distinct : AreDistinct (kept g es)
  pub ordered : (v w : ℤ) → standing v (values g es) < standing w (values g es) → standing v (kept g es) < standing w (kept g es)

abbrev pub KeptValuesAreOfTheirGroup : Type 0
KeptValuesAreOfTheirGroup = (g : ℕ) (es : List Placed) → KeepsEach g es

-- the groups stand one behind the other, and each kept value at its position
pub record StandsAt (es : List Placed) : Type 0 where
  pub first : start 0 es ≡ 0
  pub next : (g : ℕ) → start (suc g) es ≡ start g es + length (kept g es)
  pub inside : (g n : ℕ) (w : ℤ) → g < n → is_among w (kept g es) ≡ true → position g w es < start n es
  pub value : (g n : ℕ) (w : ℤ) → g < n → is_among w (kept g es) ≡ true → nth (kept_before n es) (position g w es) ≡ w

abbrev pub KeptValuesStandByGroups : Type 0
KeptValuesStandByGroups = (es : List Placed) → StandsAt es

-- behind any entries the marks tell of a value whether its group has it yet, and where
pub record Tells (g : ℕ) (es : List Placed) (s : Marks) : Type 0 where
  pub new : (w : ℤ) → nat_le (s.mark w) (s.ptr g) ≡ not (is_among w (kept g es))
  pub old : (w : ℤ) → is_among w (kept g es) ≡ true → s.mark w ≡ suc (position g w es)

abbrev pub MarksTellNewValues : Type 0
MarksTellNewValues = (a : Walk) → Rising a.group → (i j : ℕ) → Tells (a.group i) (met_before a i ++ row_met a i j) (marks_in a i j)

-- what the marks leave: where each group begins, the total, and the kept values
pub record Finds (es : List Placed) (groups : ℕ) (s : Marks) : Type 0 where
  pub ptr : (g : ℕ) → g ≤ groups → s.ptr g ≡ start g es
  pub val : s.val ≡ kept_before groups es

abbrev pub MarksFindKeptValues : Type 0
MarksFindKeptValues = (f : Form) (rest : Entry → List ℤ) (m : Csr) → Finds (map (placed f rest) (entries m)) (groups f m) (marks_of (walk f rest m) m.rows)

-- each entry's value is between the least and the greatest of its form
abbrev pub ValuesLieInRange : Type 0
ValuesLieInRange =
    (f : Form) (m : Csr) (r j : ℕ) → 0 < f.divisor → r < m.rows → j < m.cols → (least_value f m ≤ℤ value_at f r j) × (value_at f r j ≤ℤ greatest_value f m)
