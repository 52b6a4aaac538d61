-- Worked sources: a copy, a copy of the next cell, and a product with a sparse matrix.
use Rattle.std.specs.Prelude.{◌≡◌, ℕ, ℤ, map, false, pos, negsuc, List, [], ◌∷◌, None, Some}
use Rattle.c_tree.specs.declared.index.Index.{Index}
use Rattle.c_tree.specs.declared.index.Index.TheVariants.{Const, Var, Plus, At}
use Rattle.c_tree.specs.declared.index.Cell.{Cell}
use Rattle.c_tree.specs.declared.index.Subscripts.TheVariants.{One}
use Rattle.c_tree.specs.declared.data.Expr.TheVariants.{At as Load, Times}
use Rattle.c_tree.specs.declared.data.Expr.{Expr}
use Rattle.c_tree.specs.declared.statement.How.TheVariants.{Write, Add}
use Rattle.c_tree.specs.declared.statement.Stmt.TheVariants.{For, Assign}
use Rattle.c_tree.specs.declared.program.Array.{Array}
use Rattle.c_tree.specs.declared.program.Kind.TheVariants.{Number, Position}
use Rattle.c_tree.specs.declared.program.Kind.{Kind}
use Rattle.c_tree.specs.declared.program.Program.{Program}
use Rattle.int_rows.specs.declared.row.Aff.{Aff}
use Rattle.nest_tree.specs.declared.body.Access.{Access}
use Rattle.nest_tree.specs.declared.body.Body.TheVariants.{At as At-Body, Times as Times-Body}
use Rattle.nest_tree.specs.declared.form.Form.TheVariants.{Other, Whole}
use Rattle.nest_tree.specs.declared.kernel.KernelRow.{KernelRow}
use Rattle.nest_tree.specs.declared.kernel.Nest.{Nest}
use Rattle.nest_tree.specs.declared.kernel.Term.{Term}
use Rattle.source_limits.specs.declared.fault.Side.TheVariants.{Past}
use Rattle.source_limits.specs.declared.fault.SourceFault.TheVariants.{Outside}
use Rattle.c_meaning.specs.Names.{Name}
use Rattle.c_meaning.specs.Examples.{b, c, i, n}
use Rattle.executors.specs.Executors.{Executor, done, assign, loop}
use Rattle.acceptance.specs.Visits.{Spot, visit, into, bounds, outside}
use Rattle.acceptance.specs.Judged.{first}
use Rattle.acceptance.specs.Limits.{limits}
use Rattle.acceptance.specs.Inside.{accesses}
use Rattle.acceptance.specs.Accepted.{refusal, statements, asked_in}

abbrev pub array : Name → Array
array a = record { name = a; kind = Number; extents = Var n ∷ [] }

abbrev pub cell : Name → Index → Cell
cell a e = record { array = a; at = One e }

-- for (i = 0; i < n; i++) b[i] = c[e];
abbrev pub copy_of : Index → Program
copy_of e = record { name = b; matrices = []; params = n ∷ []; arrays = array b ∷ array c ∷ []; inspector = []; executor = For i (Const (pos 0)) (Var n) (Assign (cell b (Var i)) Write (Load (cell c e)) ∷ []) ∷ [] }

abbrev pub form : ℤ → ℤ → ℤ → Aff
form a b c = record { coefs = a ∷ b ∷ []; constant = c }

abbrev pub row : Aff → KernelRow
row f = record { row = record { equal = false; form = f }; own = 1 }

abbrev pub access : Name → Access
access a = record { array = a; at = form (pos 0) (pos 1) (pos 0) ∷ [] }

-- b[i] = c[i] at the positions 0 and 0, where i >= 0 and n-1-i >= 0
abbrev pub copying : Nest
copying = record {
  levels = Other ∷ [];
  positions = 0 ∷ 0 ∷ [];
  terms = [];
  rows = row (form (pos 0) (pos 1) (pos 0)) ∷ row (form (pos 1) (negsuc 0) (negsuc 0)) ∷ [];
  target = access b;
  how = Write;
  value = At-Body (access c);
  whole = None;
}

abbrev pub CopyIsAccepted : Type 0
CopyIsAccepted = (refusal (copy_of (Var i)) ≡ None) × (statements (copy_of (Var i)) (asked_in (copy_of (Var i))) ≡ copying ∷ [])

-- the last turn reads c[n]
abbrev pub NextCellIsRefused : Type 0
NextCellIsRefused = refusal (copy_of (Plus (Var i) (Const (pos 1)))) ≡ Some (Outside 0 c Past)

-- ## y[i] += a[k] * x[col[k]] for the rows i of a matrix and the entries k of a row

abbrev pub m : Name
m = 109 ∷ []

abbrev pub z : Name
z = 122 ∷ []

abbrev pub first_of : Name
first_of = 102 ∷ []

abbrev pub col : Name
col = 107 ∷ []

abbrev pub a : Name
a = 97 ∷ []

abbrev pub x : Name
x = 120 ∷ []

abbrev pub y : Name
y = 121 ∷ []

abbrev pub k : Name
k = 106 ∷ []

abbrev pub declared : Name → Kind → Index → Array
declared b kind e = record { name = b; kind = kind; extents = e ∷ [] }

abbrev pub low : Index
low = At (cell first_of (Var i))

abbrev pub high : Index
high = At (cell first_of (Plus (Var i) (Const (pos 1))))

abbrev pub value : Expr
value = Times (Load (cell a (Var k))) (Load (cell x (At (cell col (Var k)))))

abbrev pub product_executor : Executor
product_executor = loop i (Const (pos 0)) (Var n) (loop k low high (assign (cell y (Var i)) Add value done) done) done

abbrev pub product : Program
product = record {
  name = b;
  matrices = record { index = first_of; col = col; value = a; rows = n; cols = m; count = z } ∷ [];
  params = n ∷ m ∷ z ∷ [];
  arrays = declared first_of Position (Plus (Var n) (Const (pos 1))) ∷ declared col Position (Var z) ∷ declared a Number (Var z) ∷ declared x Number (Var m) ∷ declared y Number (Var n) ∷ [];
  inspector = [];
  executor = For i (Const (pos 0)) (Var n) (For k low high (Assign (cell y (Var i)) Add value ∷ []) ∷ []) ∷ [];
}

-- a form of n, m, z, i, k, index[i], index[i+1] and col[k]
abbrev pub wide : ℤ → List ℤ → ℤ → Aff
wide n cs c = record { coefs = n ∷ pos 0 ∷ pos 0 ∷ cs; constant = c }

abbrev pub none : ℤ
none = pos 0

abbrev pub at : Name → Aff → Access
at b f = record { array = b; at = f ∷ [] }

abbrev pub term : Name → Aff → Term
term b f = record { array = b; at = f ∷ [] }

abbrev pub is_i : ℤ → Aff
is_i c = wide none (pos 1 ∷ none ∷ none ∷ none ∷ none ∷ []) c

abbrev pub is_k : Aff
is_k = wide none (none ∷ pos 1 ∷ none ∷ none ∷ none ∷ []) none

abbrev pub owned : ℕ → Aff → KernelRow
owned own f = record { row = record { equal = false; form = f }; own = own }

abbrev pub multiplying : Nest
multiplying = record {
  levels = Whole (pos 1) (pos 0) (pos 0) (pos 0) (pos 1) ∷ Whole (pos 0) (pos 0) (pos 1) (pos 0) (pos 1) ∷ [];
  positions = 0 ∷ 0 ∷ 0 ∷ [];
  terms = term first_of (is_i none) ∷ term first_of (is_i (pos 1)) ∷ term col is_k ∷ [];
  rows = owned 1 (is_i none) ∷ owned 1 (wide (pos 1) (negsuc 0 ∷ none ∷ none ∷ none ∷ none ∷ []) (negsuc 0))
      ∷ owned 2 (wide none (none ∷ pos 1 ∷ negsuc 0 ∷ none ∷ none ∷ []) none) ∷ owned 2 (wide none (none ∷ negsuc 0 ∷ none ∷ pos 1 ∷ none ∷ []) (negsuc 0)) ∷ [];
  target = at y (is_i none);
  how = Add;
  value = Times-Body (At-Body (at a is_k)) (At-Body (at x (wide none (none ∷ none ∷ none ∷ none ∷ pos 1 ∷ []) none)));
  whole = Some 0;
}

abbrev pub rows_at : Spot
rows_at = into i (Const (pos 0)) (Var n) outside

-- the statement goes over the whole matrix, and has three terms; all limits are kept, and the terms of both loops' bounds are inside
abbrev pub ProductIsKept : Type 0
ProductIsKept =
    (statements product (asked_in product) ≡ multiplying ∷ []) × (first (map (limits product) (asked_in product)) ≡ None)
    × (accesses product (visit outside (i ∷ k ∷ []) (bounds i (Const (pos 0)) (Var n))) ≡ None) × (accesses product (visit rows_at (k ∷ []) (bounds k low high)) ≡ None)
