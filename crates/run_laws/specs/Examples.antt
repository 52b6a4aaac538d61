-- A worked case: a loop that copies an array, on arrays of two cells.
use Rattle.std.specs.Prelude.{◌≡◌, List, [], ◌∷◌, codes, Ok, Err}
use Rattle.c_tokens.specs.declared.token.Sign.TheVariants as s
use Rattle.c_tokens.specs.declared.token.Token.{Token}
use Rattle.c_tokens.specs.declared.token.Token.TheVariants as t
use Rattle.c_tree.specs.declared.index.Index.TheVariants.{Var}
use Rattle.c_tree.specs.declared.program.Kind.TheVariants.{Number}
use Rattle.c_tree.specs.declared.program.Array.{Array}
use Rattle.c_tree.specs.declared.program.Program.{Program}
use Rattle.c_meaning.specs.Names.{Name}
use Rattle.c_meaning.specs.Examples.{b, c, n, copy_loop}
use Rattle.csr_data.specs.declared.values.Parameter.{Parameter}
use Rattle.csr_data.specs.declared.values.Table.{Table}
use Rattle.csr_data.specs.Divisors.{ExtentsHaveDivisors}
use Rattle.c_judge.specs.Rules.{KeepsRules}
use Rattle.c_run.specs.Ready.{CanInspect}
use Rattle.c_run.specs.Store.{prepared}

abbrev pub array_of : Name → Array
array_of x = record { name = x; kind = Number; extents = Var n ∷ [] }

-- void f(int64_t n, uint64_t b[n], uint64_t c[n]) { for (int64_t i = 0; i < n; i++) b[i] = c[i]; }
abbrev pub copying : Program
copying = record { name = codes "f"; matrices = []; params = n ∷ []; arrays = array_of b ∷ array_of c ∷ []; inspector = []; executor = copy_loop }

abbrev pub array_tokens : Name → List Token → List Token
array_tokens x ts = t.Sign s.Uint64 ∷ t.Name x ∷ t.Sign s.OpenSquare ∷ t.Name (codes "n") ∷ t.Sign s.CloseSquare ∷ ts

abbrev pub cell_tokens : Name → List Token → List Token
cell_tokens x ts = t.Name x ∷ t.Sign s.OpenSquare ∷ t.Name (codes "i") ∷ t.Sign s.CloseSquare ∷ ts

abbrev pub loop_tokens : List Token
loop_tokens =
    t.Sign s.For ∷ t.Sign s.Open ∷ t.Sign s.Int64 ∷ t.Name (codes "i") ∷ t.Sign s.Assign ∷ t.Number 0 ∷ t.Sign s.Semicolon
    ∷ t.Name (codes "i") ∷ t.Sign s.Less ∷ t.Name (codes "n") ∷ t.Sign s.Semicolon ∷ t.Name (codes "i") ∷ t.Sign s.Increment ∷ t.Sign s.Close
    ∷ cell_tokens (codes "b") (t.Sign s.Assign ∷ cell_tokens (codes "c") (t.Sign s.Semicolon ∷ t.Sign s.CloseBrace ∷ []))

abbrev pub copying_tokens : List Token
copying_tokens =
    t.Sign s.Void ∷ t.Name (codes "f") ∷ t.Sign s.Open ∷ t.Sign s.Int64 ∷ t.Name (codes "n") ∷ t.Sign s.Comma
    ∷ array_tokens (codes "b") (t.Sign s.Comma ∷ array_tokens (codes "c") (t.Sign s.Close ∷ t.Sign s.OpenBrace ∷ loop_tokens))

-- n is 2; b has 5 and 7, c has 1 and 0
abbrev pub copied_values : List Parameter
copied_values = record { name = n; value = 2 } ∷ []

abbrev pub copied_arrays : List Table
copied_arrays =
    record { name = b; kind = Number; dimensions = 1; cells = record { first = 2; deep = 1; wide = 1; cells = 5 ∷ 7 ∷ [] } }
    ∷ record { name = c; kind = Number; dimensions = 1; cells = record { first = 2; deep = 1; wide = 1; cells = 1 ∷ 0 ∷ [] } } ∷ []

abbrev pub CopyCanRun : Type 0
CopyCanRun = ExtentsHaveDivisors copying × (KeepsRules copying → CanInspect copying (prepared copied_values copied_arrays))
