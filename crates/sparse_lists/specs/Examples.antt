-- A worked row: its entries, with the columns 1, 1 and 0, and its dense list.
use Rattle.std.specs.Prelude.{ℕ, List, [], ◌∷◌, ℤ, pos, true}
use Rattle.c_tree.specs.declared.statement.How.TheVariants.{Add}
use Rattle.c_meaning.specs.Names.{line}
use Rattle.c_meaning.specs.Ground.{Step, load}
use Rattle.nest_tree.specs.Lists.{IsIn, IsListOf}
use Rattle.nest_tree.specs.Places.{place, Item, Precedes}
use Rattle.nest_tree.specs.Effects.{IsMoved}
use Rattle.sparse_marks.specs.Matrices.{Csr}
use Rattle.sparse_marks.specs.Examples.{repeated}
use Rattle.sparse_lists.specs.Moving.{Goes, IsOf, densified, dense_positions}

-- the column of the entry at a row and a place
abbrev pub column_at : Csr → List ℤ → ℤ
column_at m (i ∷ pos k ∷ vs) = pos (m.col k)
column_at m _ = pos 0

-- y[0] += a[k], where a is 97 and y is 121
abbrev pub step : ℕ → Step
step k = record { target = record { array = 121 ∷ []; at = line (pos 0) }; how = Add; value = load (record { array = 97 ∷ []; at = line (pos k) }) }

-- the statement stands alone in the loops over rows and entries
abbrev pub positions : List ℕ
positions = 0 ∷ 0 ∷ 0 ∷ []

abbrev pub entry_item : ℕ → Item Step
entry_item k = record { place = place positions (pos 0 ∷ pos k ∷ []); step = step k }

abbrev pub dense_item : ℕ → ℕ → Item Step
dense_item j k = record { place = place (0 ∷ positions) (pos 0 ∷ pos j ∷ pos k ∷ []); step = step k }

abbrev pub row_list : List (Item Step)
row_list = entry_item 0 ∷ entry_item 1 ∷ entry_item 2 ∷ []

abbrev pub dense_list : List (Item Step)
dense_list = dense_item 0 2 ∷ dense_item 1 0 ∷ dense_item 1 1 ∷ []

abbrev pub GoesDense : Item Step → Item Step → Type 0
GoesDense x y = Goes positions (dense_positions 2 positions) (densified 2 (column_at repeated)) x y

-- the entries are items of the statement; the dense list is the list of their new places, and so it is their list moved
abbrev pub AreOfTheStatement : Type 0
AreOfTheStatement = (x : Item Step) → IsIn x row_list → IsOf (λ vs. true) positions x

abbrev pub IsDenseList : Type 0
IsDenseList = IsListOf Precedes (λ y. (x : Item Step) × IsIn x row_list × GoesDense x y) dense_list

abbrev pub IsMovedRow : Type 0
IsMovedRow = IsMoved GoesDense row_list dense_list
