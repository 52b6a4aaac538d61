-- The layouts that the levels of a statement allow.
use Rattle.std.specs.Prelude.{ℕ, Bool, true, false, cond, ◌&&◌, List, [], ◌∷◌, ℤ, pos, negsuc, int_le, Option, Some, None}
use Rattle.std.specs.Ordering.{int_eq}
use Rattle.chill_base.specs.declared.padding.Padding.{Padding}
use Rattle.chill_base.specs.declared.padding.Padding.TheVariants.{Block as BlockKind, Diag as DiagKind, Rows as RowsKind}
use Rattle.nest_tree.specs.declared.form.Form.{Form}
use Rattle.nest_tree.specs.declared.form.Form.TheVariants.{Other, Whole}
use Rattle.pad_layouts.specs.declared.layout.Layout.{Layout}
use Rattle.pad_layouts.specs.declared.layout.Layout.TheVariants.{Block, Diag, Rows}

abbrev pub same_three : ℤ → ℤ → ℤ → ℤ → ℤ → ℤ → Bool
same_three r j k row column entry = int_eq r row && (int_eq j column && int_eq k entry)

abbrev pub is_undivided : ℤ → ℤ → Bool
is_undivided constant divisor = int_eq constant (pos 0) && int_eq divisor (pos 1)

-- a group has 1 to 64 members
abbrev pub is_group : ℤ → ℤ → Bool
is_group constant divisor = int_eq constant (pos 0) && (int_le (pos 1) divisor && int_le divisor (pos 64))

-- the level is so many rows, columns and places of an entry added up
abbrev pub stands_for : ℤ → ℤ → ℤ → Form → Bool
stands_for row column entry Other = false
stands_for row column entry (Whole r j k constant divisor) = same_three r j k row column entry && is_undivided constant divisor

-- how many rows or columns a group has, where the level is the number of a group
abbrev pub side_of : ℤ → ℤ → Form → Option ℤ
side_of row column Other = None
side_of row column (Whole r j k constant divisor) = cond (same_three r j k row column (pos 0) && is_group constant divisor) (Some divisor) None

-- row and column, or column and row
abbrev pub order_of : Form → Form → Option Bool
order_of a b =
    cond (stands_for (pos 1) (pos 0) (pos 0) a && stands_for (pos 0) (pos 1) (pos 0) b) (Some false)
    (cond (stands_for (pos 0) (pos 1) (pos 0) a && stands_for (pos 1) (pos 0) (pos 0) b) (Some true) None)

abbrev pub blocks : Option ℤ → Option ℤ → Option Bool → Bool → Option Layout
blocks (Some rows) (Some cols) (Some swapped) true = Some (Block rows cols swapped)
blocks (Some rows) (Some cols) (Some swapped) false = None
blocks (Some rows) (Some cols) None entry = None
blocks (Some rows) None order entry = None
blocks None cols order entry = None

-- the number of a group of rows, the number of a group of columns, row and column in either order, the entry's place
abbrev pub block_of : Form → Form → Form → Form → Form → Option Layout
block_of g w a b k = blocks (side_of (pos 1) (pos 0) g) (side_of (pos 0) (pos 1) w) (order_of a b) (stands_for (pos 0) (pos 0) (pos 1) k)

-- the column less the row, the row, the entry's place
abbrev pub is_diag : Form → Form → Form → Bool
is_diag w r k = stands_for (negsuc 0) (pos 1) (pos 0) w && (stands_for (pos 1) (pos 0) (pos 0) r && stands_for (pos 0) (pos 0) (pos 1) k)

-- the row, the entry's place
abbrev pub is_rows : Form → Form → Bool
is_rows r k = stands_for (pos 1) (pos 0) (pos 0) r && stands_for (pos 0) (pos 0) (pos 1) k

-- the layout of a kind, where the levels are those of the kind
abbrev pub layout_of : Padding → List Form → Option Layout
layout_of BlockKind (g ∷ w ∷ a ∷ b ∷ k ∷ []) = block_of g w a b k
layout_of DiagKind (w ∷ r ∷ k ∷ []) = cond (is_diag w r k) (Some Diag) None
layout_of RowsKind (r ∷ k ∷ []) = cond (is_rows r k) (Some Rows) None
layout_of _ _ = None

-- the level that a padding is made at
abbrev pub level_of : Padding → ℕ
level_of BlockKind = 2
level_of DiagKind = 1
level_of RowsKind = 2
