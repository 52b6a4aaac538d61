-- Index expressions and cells, printed.
use Rattle.std.specs.Prelude.{◌++◌, codes}
use Rattle.std.specs.Fmt.{signed_decimal}
use Rattle.c_tree.specs.declared.index.Index.{Index, fold-Index}
use Rattle.c_tree.specs.declared.index.Cell.{Cell, fold-Cell}
use Rattle.c_tree.specs.declared.index.Subscripts.{Subscripts, fold-Subscripts}
use Rattle.c_tree.specs.declared.index.Index.TheOpen.{Index-F, Const, Var, At, Neg, Plus, Minus, Times, Min, Max, Floor, Ceil, Cell-F, Subscripts-F, One, Two, Three}
use Rattle.c_print.specs.declared.level.Level.TheVariants.{Sum, Product, Atom}
use Rattle.c_print.specs.Printed.{Text, Printed, atom, as_part, as_factor, bracketed, number_level}

-- sums bind from the left, so a left part needs no parentheses
abbrev pub sum_of : Printed → Text → Printed → Printed
sum_of a sign b = record { text = a.text ++ sign ++ (as_part b).text; level = Sum }

abbrev pub call_of : Text → Printed → Text → Printed
call_of word a second = atom (word ++ codes "(" ++ a.text ++ codes ", " ++ second ++ codes ")")

-- one layer of an expression, of its subscripts and of a cell, where what stands below is printed
abbrev pub index_layer : Index-F Printed Text Text → Printed
index_layer (Const n) = record { text = signed_decimal n; level = number_level n Atom }
index_layer (Var x) = atom x
index_layer (At cell) = atom cell
index_layer (Neg a) = record { text = codes "-" ++ (as_part a).text; level = Sum }
index_layer (Plus a b) = sum_of a (codes "+") b
index_layer (Minus a b) = sum_of a (codes "-") b
index_layer (Times n a) = record { text = signed_decimal n ++ codes "*" ++ (as_factor a).text; level = number_level n Product }
index_layer (Min a b) = call_of (codes "min") a b.text
index_layer (Max a b) = call_of (codes "max") a b.text
index_layer (Floor a n) = call_of (codes "floord") a (signed_decimal n)
index_layer (Ceil a n) = call_of (codes "ceild") a (signed_decimal n)

abbrev pub subscripts_layer : Subscripts-F Printed Text Text → Text
subscripts_layer (One a) = bracketed a
subscripts_layer (Two a b) = bracketed a ++ bracketed b
subscripts_layer (Three a b c) = bracketed a ++ bracketed b ++ bracketed c

abbrev pub cell_layer : Cell-F Printed Text Text → Text
cell_layer c = c.array ++ c.at

-- an index expression, printed
unfoldable pub printed : Index → Printed
printed = fold-Index Printed Text Text index_layer subscripts_layer cell_layer

-- the text of a cell's subscripts, and of a cell
unfoldable pub subscripts_text : Subscripts → Text
subscripts_text = fold-Subscripts Printed Text Text index_layer subscripts_layer cell_layer

unfoldable pub cell_text : Cell → Text
cell_text = fold-Cell Printed Text Text index_layer subscripts_layer cell_layer
