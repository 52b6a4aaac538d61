-- Layouts by kept values: each entry is added to its cell, at the position that its mark tells.
use Rattle.std.specs.Prelude.{ℕ, zero, suc, ◌+◌, ◌%◌, ℤ, pos, negsuc, Bool, true, false, ◌&&◌, List, [], ◌∷◌, if◌then◌else◌, nat_eq}
use Rattle.sparse_marks.specs.Matrices.{Entry, wrapped}
use Rattle.sparse_marks.specs.Kept.{same, Placed}
use Rattle.sparse_marks.specs.Forms.{Form}
use Rattle.sparse_marks.specs.Walks.{Walk, marks_in}

abbrev pub same_list : List ℤ → List ℤ → Bool
same_list [] [] = true
same_list (i ∷ is) (j ∷ js) = same i j && same_list is js
same_list _ _ = false

-- a layout's cells, by position and cell of the block
abbrev pub Cells : Type 0
Cells = ℕ → List ℤ → ℕ

-- a number added to the cell whose position is one below the mark
abbrev pub added : Cells → ℕ → List ℤ → ℕ → Cells
added c mark o a p o' = if nat_eq mark (suc p) && same_list o o' then wrapped (c p o' + a) else c p o'

-- the layout behind j entries of row i, and behind i rows
abbrev pub laying : Walk → ℕ → Cells → ℕ → Cells
laying a i c zero = c
laying a i c (suc j) = added (laying a i c j) ((marks_in a i (suc j)).mark (a.value i j)) (a.rest i j) (a.worth i j)

abbrev pub layout : Walk → ℕ → Cells
layout a zero = λ p o. 0
layout a (suc i) = laying a i (layout a i) (a.count i)

-- the entry falls on this cell of the block of a kept value
abbrev pub falls : ℕ → ℤ → List ℤ → Placed → Bool
falls g w o e = nat_eq e.group g && (same e.value w && same_list e.rest o)

-- what the entries are worth that pass a test, together
abbrev pub total : (Placed → Bool) → List Placed → ℕ
total p [] = 0
total p (e ∷ es) = if p e then e.worth + total p es else total p es

-- blocks of so many rows and columns: an entry's cell in its block
abbrev pub blocks : ℕ → ℕ → Form
blocks rows cols = record { c = pos 0; s0 = pos 0; divisor = cols; rows = rows }

abbrev pub in_block : ℕ → ℕ → Entry → List ℤ
in_block rows cols e = pos (e.row % rows) ∷ pos (e.col % cols) ∷ []

-- diagonals, by column less row: an entry's cell is its row
abbrev pub diagonals : Form
diagonals = record { c = negsuc 0; s0 = pos 0; divisor = 1; rows = 0 }

abbrev pub in_diagonal : Entry → List ℤ
in_diagonal e = pos e.row ∷ []
