-- Programs, printed.
use Rattle.std.specs.Prelude.{List, [], ◌∷◌, ◌++◌, codes, map}
use Rattle.c_tokens.specs.Lines.{prelude}
use Rattle.c_tree.specs.declared.index.Index.{Index}
use Rattle.c_tree.specs.declared.program.Array.{Array}
use Rattle.c_tree.specs.declared.program.Kind.{Kind}
use Rattle.c_tree.specs.declared.program.Kind.TheVariants.{Number, Position}
use Rattle.c_tree.specs.declared.program.Matrix.{Matrix}
use Rattle.c_tree.specs.declared.program.Program.{Program}
use Rattle.c_tree.specs.declared.statement.Stmt.{Stmt}
use Rattle.c_print.specs.Printed.{Text, bracketed}
use Rattle.c_print.specs.Index.{printed}
use Rattle.c_print.specs.Lists.{joined}
use Rattle.c_print.specs.Statement.{block, statement_text}

-- texts one after another, each by its line
abbrev pub lines_of : List Text → Text
lines_of [] = []
lines_of (t ∷ ts) = t ++ codes "\n" ++ lines_of ts

abbrev pub matrix_text : Matrix → Text
matrix_text m = codes "#pragma sparse csr(" ++ joined (codes ", ") (m.index ∷ m.col ∷ m.value ∷ m.rows ∷ m.cols ∷ m.count ∷ []) ++ codes ")"

abbrev pub param_text : Text → Text
param_text name = codes "int64_t " ++ name

abbrev pub type_text : Kind → Text
type_text Number = codes "uint64_t "
type_text Position = codes "int64_t "

abbrev pub extents_text : List Text → Text
extents_text [] = []
extents_text (e ∷ es) = e ++ extents_text es

abbrev pub extent_text : Index → Text
extent_text e = bracketed (printed e)

abbrev pub array_text : Array → Text
array_text a = type_text a.kind ++ a.name ++ extents_text (map extent_text a.extents)

abbrev pub parameters : Program → List Text
parameters p = map param_text p.params ++ map array_text p.arrays

abbrev pub header : Program → Text
header p = codes "void " ++ p.name ++ codes "(" ++ joined (codes ", ") (parameters p) ++ codes ")\n{\n"

abbrev pub section : List Stmt → Text
section body = block (map statement_text body) (codes "  ")

-- both section lines stand exactly where the inspector isn't empty
abbrev pub sections : List Stmt → List Stmt → Text
sections [] executor = section executor
sections (s ∷ inspector) executor = codes "#pragma sparse inspector\n" ++ section (s ∷ inspector) ++ codes "#pragma sparse executor\n" ++ section executor

unfoldable pub program_text : Program → Text
program_text p = lines_of prelude ++ lines_of (map matrix_text p.matrices) ++ header p ++ sections p.inspector p.executor ++ codes "}\n"
