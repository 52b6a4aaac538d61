-- The expressions of an inspector.
use Rattle.std.specs.Prelude.{ℕ, List, Bool, cond, ℤ, pos, ◌+ℤ◌, Option, None, bytes_eq}
use Rattle.std.specs.Ordering.{int_eq}
use Rattle.c_tree.specs.declared.program.Matrix.{Matrix}
use Rattle.c_tree.specs.declared.index.Index.{Index}
use Rattle.c_tree.specs.declared.index.Index.TheVariants.{Const, Var, At, Minus, Floor, Ceil}
use Rattle.inspectors.specs.declared.level.Compacted.{Compacted}
use Rattle.inspectors.specs.declared.level.Group.{Group}
use Rattle.inspectors.specs.declared.level.Group.TheVariants.{All, Rows}
use Rattle.inspectors.specs.declared.numbers.Sum.{Sum}
use Rattle.inspectors.specs.Numbers.{value_sum, low_sum, high_sum, offset_sum, width_sum}
use Rattle.inspectors.specs.Trees.{row_name, entry_name, cell, plus_one, with_multiple, with_constant}

-- the column of an entry
abbrev pub column : Matrix → Index
column m = At (cell m.col (Var entry_name))

-- the numbers of rows and columns are the same parameter
abbrev pub is_square : Matrix → Bool
is_square m = bytes_eq m.rows m.cols

-- multiples of the numbers of rows and columns, in the order of the signature; one multiple where they are the same parameter
unfoldable pub with_sizes : Matrix → Bool → Sum → Option Index → Option Index
with_sizes m cols_first s before =
    cond (is_square m) (with_multiple before (s.rows +ℤ s.cols) (Var m.rows))
    (cond cols_first
    (with_multiple (with_multiple before s.cols (Var m.cols)) s.rows (Var m.rows))
    (with_multiple (with_multiple before s.rows (Var m.rows)) s.cols (Var m.cols)))

-- a sum as it is printed
unfoldable pub sum_text : Matrix → Bool → Sum → Index
sum_text m cols_first s =
    with_constant (with_multiple (with_sizes m cols_first s (with_multiple None s.row (Var row_name))) s.column (column m)) s.constant

abbrev pub text_of : Compacted → Sum → Index
text_of x s = sum_text x.matrix x.cols_first s

abbrev pub quotient : Compacted → Sum → Index
quotient x s = Floor (text_of x s) x.form.divisor

-- the value of an entry
unfoldable pub value : Compacted → Index
value x = cond (int_eq x.form.divisor (pos 1)) (text_of x (value_sum x.form)) (quotient x (value_sum x.form))

-- the value less the least one
unfoldable pub offset : Compacted → Index
offset x = cond (int_eq x.form.divisor (pos 1))
    (text_of x (offset_sum x.form))
    (Minus (quotient x (value_sum x.form)) (quotient x (low_sum x.form)))

-- how many values there may be
unfoldable pub width : Compacted → Index
width x = cond (int_eq x.form.divisor (pos 1))
    (text_of x (width_sum x.form))
    (plus_one (Minus (quotient x (high_sum x.form)) (quotient x (low_sum x.form))))

-- a parameter or loop variable divided by a number of rows
abbrev pub rows_below : ℤ → List ℕ → Index
rows_below r x = cond (int_eq r (pos 1)) (Var x) (Floor (Var x) r)

abbrev pub rows_above : ℤ → List ℕ → Index
rows_above r x = cond (int_eq r (pos 1)) (Var x) (Ceil (Var x) r)

-- the group of a row, the next one, and one more than there are groups
abbrev pub group : Group → Index
group All = Const (pos 0)
group (Rows r) = rows_below r row_name

abbrev pub next_group : Group → Index
next_group All = Const (pos 1)
next_group (Rows r) = plus_one (rows_below r row_name)

abbrev pub pointers : Matrix → Group → Index
pointers m All = Const (pos 2)
pointers m (Rows r) = plus_one (rows_above r m.rows)
