-- Rows that are filled up with zeros to the length of the longest.
use Rattle.std.specs.Prelude.{ℕ, zero, suc, ◌+◌, max, List, [], ◌∷◌, ◌++◌, if◌then◌else◌, nat_eq, nat_lt}
use Rattle.sparse_marks.specs.Matrices.{Csr, count}

-- the length of the longest of the first n rows, 0 for none
abbrev pub longest : Csr → ℕ → ℕ
longest m zero = 0
longest m (suc n) = max (longest m n) (count m n)

abbrev pub width : Csr → ℕ
width m = longest m m.rows

-- the value and the column of a row's s-th entry, 0 behind its last
abbrev pub row_value : Csr → ℕ → ℕ → ℕ
row_value m i s = if nat_lt s (count m i) then m.worth (m.first i + s) else 0

abbrev pub row_column : Csr → ℕ → ℕ → ℕ
row_column m i s = if nat_lt s (count m i) then m.col (m.first i + s) else 0

-- the numbers from 0 to below n
abbrev pub upto : ℕ → List ℕ
upto zero = []
upto (suc n) = upto n ++ n ∷ []

-- what the first s cells of a row hold in a column, together
abbrev pub in_column : Csr → ℕ → ℕ → ℕ → ℕ
in_column m i j zero = 0
in_column m i j (suc s) = in_column m i j s + (if nat_eq (row_column m i s) j then row_value m i s else 0)

-- a list with so many zeros behind it
abbrev pub filled : List ℕ → ℕ → List ℕ
filled xs zero = xs
filled xs (suc k) = filled xs k ++ 0 ∷ []
