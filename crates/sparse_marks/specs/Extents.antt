-- The extents of the arrays that are made of kept values, and what is read of them.
use Rattle.std.specs.Prelude.{ℕ, zero, suc, ◌+◌, ◌*◌, ◌≤◌, ◌<◌, ℤ, List, map, length}
use Rattle.sparse_marks.specs.Matrices.{Csr, Entry, entries}
use Rattle.sparse_marks.specs.Kept.{Placed, start}
use Rattle.sparse_marks.specs.Forms.{Form, group_by, groups, placed}
use Rattle.sparse_marks.specs.Walks.{walk, marks_of}

-- the begins have a cell for each group and one for the total; the values have one for each value that the walk keeps
abbrev pub begins_extent : Form → Csr → ℕ
begins_extent f m = suc (groups f m)

abbrev pub values_extent : Form → (Entry → List ℤ) → Csr → ℕ
values_extent f rest m = length (marks_of (walk f rest m) m.rows).val

-- the range of the begins that may be read of n rows: of groups of R rows, R*e is at most n + R - 1; of one group, e is at most 1
abbrev pub IsBegin : ℕ → ℕ → ℕ → Type 0
IsBegin zero n e = e ≤ 1
IsBegin (suc k) n e = suc k * e ≤ n + k

-- a position between the begin of a group and the next one
pub record IsBetween (es : List Placed) (groups g p : ℕ) : Type 0 where
  pub group : g < groups
  pub from : start g es ≤ p
  pub to : p < start (suc g) es

-- begins and values are read exactly in their extents
pub record FitsReads (f : Form) (rest : Entry → List ℤ) (m : Csr) : Type 0 where
  pub begin_inside : (e : ℕ) → IsBegin f.rows m.rows e → e < begins_extent f m
  pub each_begin : (e : ℕ) → e < begins_extent f m → IsBegin f.rows m.rows e
  pub group : (r : ℕ) → r < m.rows → group_by f.rows r < groups f m
  pub value_inside : (g p : ℕ) → IsBetween (map (placed f rest) (entries m)) (groups f m) g p → p < values_extent f rest m
  pub each_value : (p : ℕ) → p < values_extent f rest m → (g : ℕ) × IsBetween (map (placed f rest) (entries m)) (groups f m) g p

abbrev pub ExtentsFitReads : Type 0
ExtentsFitReads = (f : Form) (rest : Entry → List ℤ) (m : Csr) → FitsReads f rest m
