-- A worked case.
use Rattle.std.specs.Prelude.{pos, [], ◌∷◌, codes}
use Rattle.c_tree.specs.declared.index.Index.TheVariants.{Const, Var}
use Rattle.c_tree.specs.declared.data.Expr.TheVariants.{At as Load}
use Rattle.c_tree.specs.declared.statement.How.TheVariants.{Write}
use Rattle.c_tree.specs.declared.statement.Stmt.{Stmt}
use Rattle.c_tree.specs.declared.statement.Stmt.TheVariants.{For, Assign}
use Rattle.c_tree.specs.declared.program.Kind.TheVariants.{Number}
use Rattle.c_tree.specs.declared.program.Array.{Array}
use Rattle.c_tree.specs.declared.program.Program.{Program}
use Rattle.c_meaning.specs.Names.{Name}
use Rattle.c_meaning.specs.Examples.{b, c, n, at}

-- for (int64_t x = 0; x < n; x++) b[x] = c[x];
abbrev pub loop_over : Name → Stmt
loop_over x = For x (Const (pos 0)) (Var n) (Assign (at b (Var x)) Write (Load (at c (Var x))) ∷ [])

-- a data array with one extent
abbrev pub array : Name → Array
array x = record { name = x; kind = Number; extents = Var n ∷ [] }

-- void f(int64_t n, uint64_t b[n], uint64_t c[n]), with that loop
abbrev pub copying : Name → Program
copying x = record { name = codes "f"; matrices = []; params = n ∷ []; arrays = array b ∷ array c ∷ []; inspector = []; executor = loop_over x ∷ [] }
