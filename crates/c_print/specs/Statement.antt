-- Statements, printed line by line.
use Rattle.std.specs.Prelude.{◌+◌, List, [], ◌∷◌, ◌++◌, codes, decimal, length, map}
use Rattle.c_tree.specs.declared.data.Expr.{Expr}
use Rattle.c_tree.specs.declared.index.Cell.{Cell}
use Rattle.c_tree.specs.declared.index.Index.{Index}
use Rattle.c_tree.specs.declared.program.Kind.{Kind}
use Rattle.c_tree.specs.declared.program.Kind.TheVariants.{Number, Position}
use Rattle.c_tree.specs.declared.statement.Cmp.{Cmp}
use Rattle.c_tree.specs.declared.statement.Cmp.TheVariants.{Less, AtMost, More, AtLeast, Same}
use Rattle.c_tree.specs.declared.statement.How.{How}
use Rattle.c_tree.specs.declared.statement.How.TheVariants.{Write, Add, Subtract}
use Rattle.c_tree.specs.declared.statement.Test.{Test}
use Rattle.c_tree.specs.declared.statement.Stmt.{Stmt, fold-Stmt}
use Rattle.c_tree.specs.declared.statement.Stmt.TheOpen.{Stmt-F, For, If, Assign, Put, Declare, Grow}
use Rattle.c_print.specs.Printed.{Text}
use Rattle.c_print.specs.Index.{printed, cell_text}
use Rattle.c_print.specs.Data.{data_printed}
use Rattle.c_print.specs.Lists.{followed, joined}

abbrev pub index_text : Index → Text
index_text e = (printed e).text

abbrev pub cmp_text : Cmp → Text
cmp_text Less = codes " < "
cmp_text AtMost = codes " <= "
cmp_text More = codes " > "
cmp_text AtLeast = codes " >= "
cmp_text Same = codes " == "

abbrev pub how_text : How → Text
how_text Write = codes " = "
how_text Add = codes " += "
how_text Subtract = codes " -= "

abbrev pub test_text : Test → Text
test_text t = index_text t.left ++ cmp_text t.cmp ++ index_text t.right

-- `DATA1`, `INDEX2` and so on: the number is the count of extents
abbrev pub kind_word : Kind → Text
kind_word Number = codes "DATA"
kind_word Position = codes "INDEX"

abbrev pub declaration : Text → Kind → List Index → Text
declaration name kind inner = kind_word kind ++ decimal (length inner + 1) ++ codes "(" ++ name ++ followed (codes ", ") (map index_text inner) ++ codes ");\n"

-- `for (int64_t v = low; v < high; v++) {`
abbrev pub loop_head : Text → Text → Text → Text
loop_head v low high = codes "for (int64_t " ++ v ++ codes " = " ++ low ++ (codes "; " ++ v ++ codes " < " ++ high) ++ (codes "; " ++ v ++ codes "++) {\n")

abbrev pub guard_head : List Test → Text
guard_head tests = codes "if (" ++ joined (codes " && ") (map test_text tests) ++ codes ") {\n"

abbrev pub assign_text : Cell → How → Expr → Text
assign_text target how value = cell_text target ++ how_text how ++ (data_printed cell_text value).text ++ codes ";\n"

abbrev pub put_text : Cell → Index → Text
put_text target value = cell_text target ++ codes " = " ++ index_text value ++ codes ";\n"

abbrev pub growth : Text → Index → Text
growth name by = codes "GROW(" ++ name ++ codes ", " ++ index_text by ++ codes ");\n"

-- a statement's lines, by what its lines begin with
abbrev pub Lines : Type 0
Lines = Text → Text

abbrev pub block : List Lines → Lines
block [] indent = []
block (s ∷ ss) indent = s indent ++ block ss indent

-- a head, a body two blanks deeper, and the brace that closes it
abbrev pub nested : Text → List Lines → Lines
nested head body indent = indent ++ head ++ block body (indent ++ codes "  ") ++ (indent ++ codes "}\n")

abbrev pub statement_layer : Stmt-F Lines → Lines
statement_layer (For v low high body) indent = nested (loop_head v (index_text low) (index_text high)) body indent
statement_layer (If tests body) indent = nested (guard_head tests) body indent
statement_layer (Assign target how value) indent = indent ++ assign_text target how value
statement_layer (Put target value) indent = indent ++ put_text target value
statement_layer (Declare name kind inner) indent = indent ++ declaration name kind inner
statement_layer (Grow name by) indent = indent ++ growth name by

unfoldable pub statement_text : Stmt → Lines
statement_text = fold-Stmt Lines statement_layer
