-- Worked matrices.
use Rattle.std.specs.Prelude.{ℕ, zero, suc, ℤ, pos, negsuc, Bool, List, [], ◌∷◌, map, nat_le}
use Rattle.sparse_marks.specs.Matrices.{Csr, entries}
use Rattle.sparse_marks.specs.Kept.{Placed, kept_before, start}
use Rattle.sparse_marks.specs.Forms.{Form, groups, placed, value_at}
use Rattle.sparse_marks.specs.Marks.{Marks}
use Rattle.sparse_marks.specs.Walks.{walk, marks_of, marks_in}
use Rattle.sparse_marks.specs.Extents.{IsBegin, IsBetween}

-- the number at a place of a list, 0 past the end
abbrev pub numbers : List ℕ → ℕ → ℕ
numbers [] k = 0
numbers (x ∷ xs) zero = x
numbers (x ∷ xs) (suc k) = numbers xs k

abbrev pub matrix : ℕ → ℕ → List ℕ → List ℕ → List ℕ → Csr
matrix n m index col a = record { rows = n; cols = m; first = numbers index; col = numbers col; worth = numbers a }

-- rows 5 0 6 0, 0 7 0 0 and 8 0 0 9
abbrev pub three_by_four : Csr
three_by_four = matrix 3 4 (0 ∷ 2 ∷ 3 ∷ 5 ∷ []) (0 ∷ 2 ∷ 1 ∷ 0 ∷ 3 ∷ []) (5 ∷ 6 ∷ 7 ∷ 8 ∷ 9 ∷ [])

-- the second block stands in the first row
abbrev pub late_block_first : Csr
late_block_first = matrix 2 4 (0 ∷ 1 ∷ 2 ∷ []) (2 ∷ 0 ∷ []) (1 ∷ 1 ∷ [])

abbrev pub no_rows : Csr
no_rows = matrix 0 0 (0 ∷ []) [] []

-- one row whose column 1 stands twice, with the values 2 and 3, before its column 0 with 4
abbrev pub repeated : Csr
repeated = matrix 1 2 (0 ∷ 3 ∷ []) (1 ∷ 1 ∷ 0 ∷ []) (2 ∷ 3 ∷ 4 ∷ [])

-- an empty row between two rows
abbrev pub empty_between : Csr
empty_between = matrix 3 2 (0 ∷ 1 ∷ 1 ∷ 2 ∷ []) (0 ∷ 1 ∷ []) (3 ∷ 4 ∷ [])

-- blocks of two rows and two columns, single entries by rows, and diagonals
abbrev pub by_blocks : Form
by_blocks = record { c = pos 0; s0 = pos 0; divisor = 2; rows = 2 }

abbrev pub by_columns : Form
by_columns = record { c = pos 0; s0 = pos 0; divisor = 1; rows = 1 }

abbrev pub by_diagonals : Form
by_diagonals = record { c = negsuc 0; s0 = pos 0; divisor = 1; rows = 0 }

-- the entries of a matrix as a form places them, the starts of all groups with the total, and the kept values
abbrev pub placed_entries : Form → Csr → List Placed
placed_entries f m = map (placed f (λ e. [])) (entries m)

abbrev pub starts_from : ℕ → ℕ → List Placed → List ℕ
starts_from h zero es = start h es ∷ []
starts_from h (suc k) es = start h es ∷ starts_from (suc h) k es

abbrev pub pointers : Form → Csr → List ℕ
pointers f m = starts_from 0 (groups f m) (placed_entries f m)

abbrev pub kept_values : Form → Csr → List ℤ
kept_values f m = kept_before (groups f m) (placed_entries f m)

-- the values that the marks have kept behind all rows
abbrev pub marks_left : Form → Csr → List ℤ
marks_left f m = (marks_of (walk f (λ e. []) m) m.rows).val

-- whether a value is new to the last row behind its first entry: the second entry's
abbrev pub is_new_at_last : Form → Csr → Bool
is_new_at_last f m =
    let s : Marks = marks_in (walk f (λ e. []) m) 2 1 in
    nat_le (s.mark (value_at f 2 (m.col 4))) (s.ptr 0)

-- the last begin and the last kept value that are read of blocks: the next begin of group 1, and position 3
abbrev pub IsLastRead : Type 0
IsLastRead = IsBegin 2 3 2 × IsBetween (placed_entries by_blocks three_by_four) 2 1 3
