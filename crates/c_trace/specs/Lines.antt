-- The line of an assignment, with each subscript as its value.
use Rattle.std.specs.Prelude.{ℕ, ℤ, Bool, true, ◌&&◌, List, [], ◌∷◌, ◌++◌, take, codes, Ok, Err, is_ok}
use Rattle.std.specs.Fmt.{signed_decimal}
use Rattle.c_tree.specs.declared.index.Cell.{Cell}
use Rattle.c_tree.specs.declared.index.Subscripts.{Subscripts, fold-Subscripts}
use Rattle.c_tree.specs.declared.index.Index.TheOpen.{Index-F, Cell-F, Subscripts-F, One, Two, Three}
use Rattle.c_tree.specs.declared.data.Expr.{Expr, fold-Expr}
use Rattle.c_tree.specs.declared.data.Expr.TheOpen.{Expr-F, Const, At, Plus, Minus, Times}
use Rattle.c_tree.specs.declared.statement.How.{How}
use Rattle.c_meaning.specs.Names.{Place}
use Rattle.c_meaning.specs.Scope.{Scope, data_cell_fits}
use Rattle.c_meaning.specs.Value.{Answer, Sight, subscripts_of}
use Rattle.c_print.specs.Printed.{Text}
use Rattle.c_print.specs.Data.{data_printed}
use Rattle.c_print.specs.Statement.{how_text}

abbrev pub no_index : Index-F (Unit {0}) ℕ (Unit {0}) → Unit {0}
no_index e = tt

abbrev pub no_cell : Cell-F (Unit {0}) ℕ (Unit {0}) → Unit {0}
no_cell c = tt

abbrev pub count_layer : Subscripts-F (Unit {0}) ℕ (Unit {0}) → ℕ
count_layer (One a) = 1
count_layer (Two a b) = 2
count_layer (Three a b c) = 3

-- how many subscripts there are
unfoldable pub count_of : Subscripts → ℕ
count_of = fold-Subscripts (Unit {0}) ℕ (Unit {0}) no_index count_layer no_cell

-- a value in brackets
abbrev pub subscript_line : ℤ → Text
subscript_line i = codes "[" ++ signed_decimal i ++ codes "]"

abbrev pub brackets : List ℤ → Text
brackets [] = []
brackets (i ∷ is) = subscript_line i ++ brackets is

-- the first n of the subscripts, where they have values
abbrev pub shown : ℕ → Answer (List ℤ) → Text
shown n (Ok is) = brackets (take n is)
shown n (Err e) = []

-- a cell with each subscript as its value
abbrev pub cell_line : Sight → Cell → Text
cell_line s c = c.array ++ shown (count_of c.at) (subscripts_of c.at s)

-- a data expression, in which each subscript is its value
abbrev pub data_line : Sight → Expr → Text
data_line s e = (data_printed (cell_line s) e).text

abbrev pub number_line : ℤ → Text
number_line n = codes "." ++ signed_decimal n

abbrev pub numbers_behind : Place → Text
numbers_behind [] = []
numbers_behind (n ∷ ns) = number_line n ++ numbers_behind ns

-- the numbers of a place, with a point between them
abbrev pub place_line : Place → Text
place_line [] = []
place_line (n ∷ ns) = signed_decimal n ++ numbers_behind ns

-- the line of an assignment
abbrev pub assignment_line : Place → Cell → How → Expr → Sight → Text
assignment_line p target how value s = place_line p ++ codes " " ++ (cell_line s target ++ how_text how ++ (data_line s value ++ codes "\n"))

-- the subscripts of a cell have values, and are as many as the array has extents
abbrev pub has_cell : Cell → Scope → Sight → Bool
has_cell e c s = data_cell_fits e c && is_ok (subscripts_of e.at s)

abbrev pub cells_layer : Expr-F (Scope → Sight → Bool) → Scope → Sight → Bool
cells_layer (Const n) c s = true
cells_layer (At e) c s = has_cell e c s
cells_layer (Plus a b) c s = a c s && b c s
cells_layer (Minus a b) c s = a c s && b c s
cells_layer (Times a b) c s = a c s && b c s

-- so it is for each cell of a data expression
unfoldable pub has_cells : Expr → Scope → Sight → Bool
has_cells = fold-Expr (Scope → Sight → Bool) cells_layer
