-- Cells, and sums of multiples of factors, as they are printed.
use Rattle.std.specs.Prelude.{Bool, true, false, cond, List, ℕ, codes, ℤ, pos, unsigned_abs, Option, Some, None}
use Rattle.std.specs.Ordering.{int_eq}
use Rattle.std.specs.Int.Signed.{lt_z}
use Rattle.c_tree.specs.declared.index.Cell.{Cell}
use Rattle.c_tree.specs.declared.index.Subscripts.TheVariants.{One, Two, Three}
use Rattle.c_tree.specs.declared.index.Index.{Index}
use Rattle.c_tree.specs.declared.index.Index.TheVariants.{Const, Neg, Plus, Minus, Times}

-- the loop variables of an inspector: the row, and the place of an entry
abbrev pub row_name : List ℕ
row_name = codes "t1"

abbrev pub entry_name : List ℕ
entry_name = codes "t2"

abbrev pub cell : List ℕ → Index → Cell
cell x e = record { array = x; at = One e }

abbrev pub cell_of_two : List ℕ → Index → Index → Cell
cell_of_two x e f = record { array = x; at = Two e f }

abbrev pub cell_of_three : List ℕ → Index → Index → Index → Cell
cell_of_three x e f g = record { array = x; at = Three e f g }

-- the first cell of an array
abbrev pub first_cell : List ℕ → Cell
first_cell x = cell x (Const (pos 0))

abbrev pub plus_one : Index → Index
plus_one e = Plus e (Const (pos 1))

-- 1 isn't printed in front of a factor
abbrev pub multiple : ℤ → Index → Index
multiple n e = cond (int_eq n (pos 1)) e (Times n e)

-- a sum begins with its first part, or with its opposite
abbrev pub first_part : Bool → Index → Index
first_part false p = p
first_part true p = Neg p

-- a later part is added or taken away
abbrev pub next_part : Index → Bool → Index → Index
next_part s false p = Plus s p
next_part s true p = Minus s p

abbrev pub joined : Option Index → Bool → Index → Index
joined None negative p = first_part negative p
joined (Some s) negative p = next_part s negative p

-- the sum with a multiple of a factor; one of 0 is left out
unfoldable pub with_multiple : Option Index → ℤ → Index → Option Index
with_multiple sum z e = cond (int_eq z (pos 0)) sum (Some (joined sum (lt_z z (pos 0)) (multiple (pos (unsigned_abs z)) e)))

-- the sum with a constant; 0 is left out, but an empty sum is 0
abbrev pub closed : Option Index → Bool → ℤ → Index
closed (Some s) negative n = cond (int_eq n (pos 0)) s (next_part s negative (Const n))
closed None negative n = first_part negative (Const n)

unfoldable pub with_constant : Option Index → ℤ → Index
with_constant sum z = closed sum (lt_z z (pos 0)) (pos (unsigned_abs z))
