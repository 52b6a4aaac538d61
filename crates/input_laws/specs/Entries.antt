-- A worked input with a matrix: one row with two entries.
use Rattle.std.specs.Prelude.{◌≡◌, ℕ, pos, List, [], ◌∷◌, codes}
use Rattle.c_tree.specs.declared.data.Expr.TheVariants as expr
use Rattle.c_tree.specs.declared.index.Index.{Index}
use Rattle.c_tree.specs.declared.index.Index.TheVariants.{Const, Var, Plus}
use Rattle.c_tree.specs.declared.index.Subscripts.TheVariants.{One}
use Rattle.c_tree.specs.declared.program.Array.{Array}
use Rattle.c_tree.specs.declared.program.Kind.{Kind}
use Rattle.c_tree.specs.declared.program.Kind.TheVariants.{Number, Position}
use Rattle.c_tree.specs.declared.program.Program.{Program}
use Rattle.c_tree.specs.declared.statement.How.TheVariants.{Write}
use Rattle.c_tree.specs.declared.statement.Stmt.TheVariants.{Assign}
use Rattle.c_grammar.specs.Index.{cell_of}
use Rattle.c_meaning.specs.Inputs.{IsValid}
use Rattle.c_meaning.specs.Names.{Name, line}
use Rattle.csr_data.specs.declared.values.Table.{Table}
use Rattle.csr_data.specs.Lines.{Given}
use Rattle.input_laws.specs.Inputs.{input_of, Reads}

-- the names n, m, z, q, k, a
abbrev pub n : Name
n = 110 ∷ []

abbrev pub m : Name
m = 109 ∷ []

abbrev pub z : Name
z = 122 ∷ []

abbrev pub q : Name
q = 113 ∷ []

abbrev pub k : Name
k = 107 ∷ []

abbrev pub a : Name
a = 97 ∷ []

abbrev pub array : Name → Kind → Index → Array
array x kind extent = record { name = x; kind = kind; extents = extent ∷ [] }

-- #pragma sparse csr(q, k, a, n, m, z)
-- void f(int64_t n, int64_t m, int64_t z, int64_t q[n+1], int64_t k[z], uint64_t a[z]) { a[0] = 1; }
abbrev pub first_entry : Program
first_entry = record {
  name = codes "f";
  matrices = record { index = q; col = k; value = a; rows = n; cols = m; count = z } ∷ [];
  params = n ∷ m ∷ z ∷ [];
  arrays = array q Position (Plus (Var n) (Const (pos 1))) ∷ array k Position (Var z) ∷ array a Number (Var z) ∷ [];
  inspector = [];
  executor = Assign (cell_of a (One (Const (pos 0)))) Write (expr.Const 1) ∷ [];
}

-- one row, which begins at 0 and ends at 2; its columns are 1 and 0
abbrev pub entries_text : List ℕ
entries_text = codes "n 1\nm 2\nz 2\nq 0 2\nk 1 0\na 5 7\n"

abbrev pub table : Name → Kind → List ℕ → Table
table x kind cells = record { name = x; kind = kind; dimensions = 1; cells = record { first = 2; deep = 1; wide = 1; cells = cells } }

abbrev pub entries : Given
entries = record {
  params = record { name = n; value = 1 } ∷ record { name = m; value = 2 } ∷ record { name = z; value = 2 } ∷ [];
  arrays = table q Position (0 ∷ 2 ∷ []) ∷ table k Position (1 ∷ 0 ∷ []) ∷ table a Number (5 ∷ 7 ∷ []) ∷ [];
}

-- the text says so, and this is a valid input; the row ends at 2, and its second column is 0
abbrev pub WorkedMatrix : Type 0
WorkedMatrix =
    Reads first_entry entries_text entries × IsValid first_entry (input_of entries) × ((input_of entries).index q (line (pos 1)) ≡ pos 2)
    × ((input_of entries).index k (line (pos 1)) ≡ pos 0)
