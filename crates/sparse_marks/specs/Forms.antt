-- Which value an entry has on a compacted level, and which group.
use Rattle.std.specs.Prelude.{ℕ, zero, suc, ◌+◌, ◌-◌, ◌/◌, ℤ, pos, ◌+ℤ◌, ◌-ℤ◌, ◌*ℤ◌, List}
use Rattle.std.specs.Int.{int_div_euclid, int_min, int_max}
use Rattle.sparse_marks.specs.Matrices.{Csr, Entry}
use Rattle.sparse_marks.specs.Kept.{Placed}

-- the level floord(column + c*row + s0, divisor), in groups of so many rows, or in one group for 0 rows
pub record Form : Type 0 where
  pub c : ℤ
  pub s0 : ℤ
  pub divisor : ℕ
  pub rows : ℕ

abbrev pub value_at : Form → ℕ → ℕ → ℤ
value_at f r j = int_div_euclid ((pos j +ℤ (f.c *ℤ pos r)) +ℤ f.s0) (pos f.divisor)

abbrev pub group_by : ℕ → ℕ → ℕ
group_by zero r = 0
group_by (suc k) r = r / suc k

-- how many groups so many rows have
abbrev pub groups_by : ℕ → ℕ → ℕ
groups_by zero n = 1
groups_by (suc k) n = (n + k) / suc k

abbrev pub groups : Form → Csr → ℕ
groups f m = groups_by f.rows m.rows

abbrev pub placed : Form → (Entry → List ℤ) → Entry → Placed
placed f rest e = record { group = group_by f.rows e.row; value = value_at f e.row e.col; rest = rest e; worth = e.worth }

-- the least and the greatest value that the form may have in the matrix
abbrev pub least_value : Form → Csr → ℤ
least_value f m = int_div_euclid (f.s0 +ℤ (int_min (pos 0) f.c *ℤ pos (m.rows - 1))) (pos f.divisor)

abbrev pub greatest_value : Form → Csr → ℤ
greatest_value f m = int_div_euclid (((pos m.cols -ℤ pos 1) +ℤ f.s0) +ℤ (int_max (pos 0) f.c *ℤ pos (m.rows - 1))) (pos f.divisor)
