-- Sums of a row, the numbers of rows and columns, a column and a constant.
use Rattle.std.specs.Prelude.{◌≤◌, ◌^◌, unsigned_abs, cond, ℤ, pos, ◌-ℤ◌, neg_ℤ}
use Rattle.std.specs.Int.Signed.{lt_z}
use Rattle.inspectors.specs.declared.numbers.KeptForm.{KeptForm}
use Rattle.inspectors.specs.declared.numbers.Sum.{Sum}

-- the factor of the row and the constant are small
pub record IsKept (f : KeptForm) : Type 0 where
  pub c : unsigned_abs f.c ≤ 64
  pub s0 : unsigned_abs f.s0 ≤ 2 ^ 20

-- all numbers of a sum are small
pub record IsSmall (s : Sum) : Type 0 where
  pub row : unsigned_abs s.row ≤ 2 ^ 21
  pub rows : unsigned_abs s.rows ≤ 2 ^ 21
  pub cols : unsigned_abs s.cols ≤ 2 ^ 21
  pub column : unsigned_abs s.column ≤ 2 ^ 21
  pub constant : unsigned_abs s.constant ≤ 2 ^ 21

-- the factor of the last row in the least value, and in the greatest one
abbrev pub falling : ℤ → ℤ
falling c = cond (lt_z c (pos 0)) c (pos 0)

abbrev pub rising : ℤ → ℤ
rising c = cond (lt_z c (pos 0)) (pos 0) c

-- the value of an entry: column + c*row + s0
abbrev pub value_sum : KeptForm → Sum
value_sum f = record { row = f.c; rows = pos 0; cols = pos 0; column = pos 1; constant = f.s0 }

-- the least value: s0 + min(0, c)*(rows - 1)
abbrev pub low_sum : KeptForm → Sum
low_sum f = record { row = pos 0; rows = falling f.c; cols = pos 0; column = pos 0; constant = f.s0 -ℤ falling f.c }

-- the greatest value: cols - 1 + s0 + max(0, c)*(rows - 1)
abbrev pub high_sum : KeptForm → Sum
high_sum f = record { row = pos 0; rows = rising f.c; cols = pos 1; column = pos 0; constant = f.s0 -ℤ pos 1 -ℤ rising f.c }

-- the value less the least one
abbrev pub offset_sum : KeptForm → Sum
offset_sum f = record { row = f.c; rows = neg_ℤ (falling f.c); cols = pos 0; column = pos 1; constant = falling f.c }

-- one more than the greatest value less the least one
abbrev pub width_sum : KeptForm → Sum
width_sum f = record { row = pos 0; rows = rising f.c -ℤ falling f.c; cols = pos 1; column = pos 0; constant = falling f.c -ℤ rising f.c }
