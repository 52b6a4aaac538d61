-- Data expressions, printed.
use Rattle.std.specs.Prelude.{◌++◌, codes, decimal}
use Rattle.c_tree.specs.declared.index.Cell.{Cell}
use Rattle.c_tree.specs.declared.data.Expr.{Expr, fold-Expr}
use Rattle.c_tree.specs.declared.data.Expr.TheOpen.{Expr-F, Const, At, Plus, Minus, Times}
use Rattle.c_print.specs.declared.level.Level.TheVariants.{Sum, Product}
use Rattle.c_print.specs.Printed.{Text, Printed, atom, as_part, as_factor}

-- Sums and products bind from the left, so a left part of a sum needs no parentheses, and a left factor only where it is
-- a sum.
abbrev pub data_sum : Printed → Text → Printed → Printed
data_sum a sign b = record { text = a.text ++ sign ++ (as_part b).text; level = Sum }

abbrev pub data_product : Printed → Printed → Printed
data_product a b = record { text = (as_part a).text ++ codes " * " ++ (as_factor b).text; level = Product }

-- one layer, where what stands below is printed and a cell has this text
abbrev pub data_layer : (Cell → Text) → Expr-F Printed → Printed
data_layer cell (Const n) = atom (decimal n)
data_layer cell (At c) = atom (cell c)
data_layer cell (Plus a b) = data_sum a (codes " + ") b
data_layer cell (Minus a b) = data_sum a (codes " - ") b
data_layer cell (Times a b) = data_product a b

-- a data expression, printed, where cells have these texts
unfoldable pub data_printed : (Cell → Text) → Expr → Printed
data_printed cell = fold-Expr Printed (data_layer cell)
