-- Worked kernels.
use Rattle.std.specs.Prelude.{ℕ, false, cond, nat_eq, List, [], ◌∷◌, ◌++◌, map, ℤ, pos, negsuc, None}
use Rattle.std.specs.List.{range_with_len}
use Rattle.int_rows.specs.declared.row.Aff.{Aff}
use Rattle.c_tree.specs.declared.program.Program.{Program}
use Rattle.c_tree.specs.declared.program.Array.{Array}
use Rattle.c_tree.specs.declared.program.Matrix.{Matrix}
use Rattle.c_tree.specs.declared.index.Index.{Index}
use Rattle.c_tree.specs.declared.index.Cell.{Cell}
use Rattle.c_tree.specs.declared.index.Subscripts.TheVariants.{One}
use Rattle.c_tree.specs.declared.statement.How.TheVariants.{Write, Add}
use Rattle.c_tree.specs.declared.statement.Stmt.{Stmt}
use Rattle.nest_tree.specs.declared.kernel.Kernel.{Kernel}
use Rattle.nest_tree.specs.declared.kernel.KernelRow.{KernelRow}
use Rattle.nest_tree.specs.declared.kernel.Nest.{Nest}
use Rattle.nest_tree.specs.declared.kernel.Term.{Term}
use Rattle.nest_tree.specs.declared.body.Body.TheVariants as body
use Rattle.nest_tree.specs.declared.form.Form.TheVariants.{Other}
use Rattle.nest_tree.specs.declared.body.Access.{Access}

abbrev pub n : List ℕ
n = 110 ∷ []

abbrev pub m : List ℕ
m = 109 ∷ []

abbrev pub b : List ℕ
b = 98 ∷ []

abbrev pub t1 : List ℕ
t1 = 116 ∷ 49 ∷ []

abbrev pub t2 : List ℕ
t2 = 116 ∷ 50 ∷ []

abbrev pub t3 : List ℕ
t3 = 116 ∷ 51 ∷ []

abbrev pub form : List ℤ → ℤ → Aff
form cs z = record { coefs = cs; constant = z }

abbrev pub bound : ℕ → List ℤ → ℤ → KernelRow
bound q cs z = record { row = record { equal = false; form = form cs z }; own = q }

abbrev pub minus_one : ℤ
minus_one = negsuc 0

-- a form over so many variables, by the numbers other than 0 of variables
abbrev pub number_in : List (ℕ × ℤ) → ℕ → ℤ
number_in [] v = pos 0
number_in (p ∷ ps) v = cond (nat_eq p.0 v) p.1 (number_in ps v)

abbrev pub over : ℕ → List (ℕ × ℤ) → ℤ → Aff
over vars ps z = record { coefs = map (number_in ps) (range_with_len 0 vars); constant = z }

abbrev pub row : ℕ → Aff → KernelRow
row q f = record { row = record { equal = false; form = f }; own = q }

abbrev pub cell : List ℕ → Index → Cell
cell a e = record { array = a; at = One e }

abbrev pub head : List Matrix → List (List ℕ) → List Array → List Stmt → Program
head ms ps as_ executor = record { name = 107 ∷ []; matrices = ms; params = ps; arrays = as_; inspector = []; executor = executor }

-- ---- for i < n, for j from 0 to i: b[i] = 0, with the loops exchanged. Variables n, t1 (j), t2 (i)
abbrev pub triangle_nest : Nest
triangle_nest = record {
  levels = Other ∷ Other ∷ [];
  positions = 0 ∷ 0 ∷ 0 ∷ [];
  terms = [];
  rows = bound 2 (pos 0 ∷ pos 0 ∷ pos 1 ∷ []) (pos 0) ∷ bound 2 (pos 1 ∷ pos 0 ∷ minus_one ∷ []) minus_one ∷ bound 1 (pos 0 ∷ pos 1 ∷ pos 0 ∷ []) (pos 0) ∷ bound 1 (pos 0 ∷ minus_one ∷ pos 1 ∷ []) (pos 0) ∷ [];
  target = record { array = b; at = form (pos 0 ∷ pos 0 ∷ pos 1 ∷ []) (pos 0) ∷ [] };
  how = Write;
  value = body.Const 0;
  whole = None;
}

abbrev pub triangle : Kernel
triangle = record { head = head [] (n ∷ []) [] []; made = []; nests = triangle_nest ∷ [] }

-- ---- for i < n: b[i] = 0, and for i from 1 to below m: b[i] = 1, in one loop. Variables n, m, t1
abbrev pub fused_nest : ℕ → KernelRow → KernelRow → ℕ → Nest
fused_nest p low high value = record {
  levels = Other ∷ [];
  positions = 0 ∷ p ∷ [];
  terms = [];
  rows = low ∷ high ∷ [];
  target = record { array = b; at = form (pos 0 ∷ pos 0 ∷ pos 1 ∷ []) (pos 0) ∷ [] };
  how = Write;
  value = body.Const value;
  whole = None;
}

abbrev pub fused : Kernel
fused = record {
  head = head [] (n ∷ m ∷ []) [] [];
  made = [];
  nests = fused_nest 0 (bound 1 (pos 0 ∷ pos 0 ∷ pos 1 ∷ []) (pos 0)) (bound 1 (pos 1 ∷ pos 0 ∷ minus_one ∷ []) minus_one) 0
      ∷ fused_nest 1 (bound 1 (pos 0 ∷ pos 0 ∷ pos 1 ∷ []) minus_one) (bound 1 (pos 0 ∷ pos 1 ∷ minus_one ∷ []) minus_one) 1 ∷ [];
}

-- ---- for i < n, for k from index[i] to below index[i+1]: y[i] += a[k] * x[col[k]]. Variables n, m, z, t1 (i), t2 (k), index[i], index[i+1], col[k]
abbrev pub index : List ℕ
index = 105 ∷ []

abbrev pub col : List ℕ
col = 99 ∷ []

abbrev pub z : List ℕ
z = 122 ∷ []

abbrev pub matrix : Matrix
matrix = record { index = index; col = col; value = 97 ∷ []; rows = n; cols = m; count = z }

abbrev pub term : List ℕ → Aff → Term
term a f = record { array = a; at = f ∷ [] }

abbrev pub access : List ℕ → Aff → Access
access a f = record { array = a; at = f ∷ [] }

-- i and k
abbrev pub of_row : Aff
of_row = over 8 ((3, pos 1) ∷ []) (pos 0)

abbrev pub of_entry : Aff
of_entry = over 8 ((4, pos 1) ∷ []) (pos 0)

abbrev pub in_a : Access
in_a = access (97 ∷ []) of_entry

abbrev pub in_x : Access
in_x = access (120 ∷ []) (over 8 ((7, pos 1) ∷ []) (pos 0))

abbrev pub product_nest : Nest
product_nest = record {
  levels = Other ∷ Other ∷ [];
  positions = 0 ∷ 0 ∷ 0 ∷ [];
  terms = term index of_row ∷ term index (over 8 ((3, pos 1) ∷ []) (pos 1)) ∷ term col of_entry ∷ [];
  rows = row 1 of_row ∷ row 1 (over 8 ((0, pos 1) ∷ (3, minus_one) ∷ []) minus_one)
      ∷ row 2 (over 8 ((4, pos 1) ∷ (5, minus_one) ∷ []) (pos 0)) ∷ row 2 (over 8 ((4, minus_one) ∷ (6, pos 1) ∷ []) minus_one) ∷ [];
  target = access (121 ∷ []) of_row;
  how = Add;
  value = body.Times (body.At in_a) (body.At in_x);
  whole = None;
}

abbrev pub product : Kernel
product = record { head = head (matrix ∷ []) (n ∷ m ∷ z ∷ []) [] []; made = []; nests = product_nest ∷ [] }

-- ---- for i < n, for k from index[i] to below index[i+1]: s[i] += a[k]; y[i] += a[k] * x[col[k]], with k in tiles of 8 entries.
-- Variables n, m, z, t1 (i), t2 (the tile), t3 (k), index[i], index[i+1], and in the second statement col[k]
abbrev pub tiled_rows : ℕ → List KernelRow
tiled_rows vars =
    row 1 (over vars ((3, pos 1) ∷ []) (pos 0)) ∷ row 1 (over vars ((0, pos 1) ∷ (3, minus_one) ∷ []) minus_one)
    ∷ row 3 (over vars ((5, pos 1) ∷ (6, minus_one) ∷ []) (pos 0)) ∷ row 3 (over vars ((5, minus_one) ∷ (7, pos 1) ∷ []) minus_one)
    ∷ row 3 (over vars ((4, negsuc 7) ∷ (5, pos 1) ∷ []) (pos 0)) ∷ row 3 (over vars ((4, pos 8) ∷ (5, minus_one) ∷ []) (pos 7)) ∷ []

-- the begin and the end of a row of the matrix
abbrev pub row_terms : ℕ → List Term
row_terms vars = term index (over vars ((3, pos 1) ∷ []) (pos 0)) ∷ term index (over vars ((3, pos 1) ∷ []) (pos 1)) ∷ []

abbrev pub entry_in : ℕ → Access
entry_in vars = access (97 ∷ []) (over vars ((5, pos 1) ∷ []) (pos 0))

abbrev pub column_in_x : Access
column_in_x = access (120 ∷ []) (over 9 ((8, pos 1) ∷ []) (pos 0))

abbrev pub tiled_sum : Nest
tiled_sum = record {
  levels = Other ∷ Other ∷ Other ∷ [];
  positions = 0 ∷ 0 ∷ 0 ∷ 0 ∷ [];
  terms = row_terms 8;
  rows = tiled_rows 8;
  target = access (115 ∷ []) (over 8 ((3, pos 1) ∷ []) (pos 0));
  how = Add;
  value = body.At (entry_in 8);
  whole = None;
}

abbrev pub tiled_product : Nest
tiled_product = record {
  levels = Other ∷ Other ∷ Other ∷ [];
  positions = 0 ∷ 0 ∷ 0 ∷ 1 ∷ [];
  terms = row_terms 9 ++ term col (over 9 ((5, pos 1) ∷ []) (pos 0)) ∷ [];
  rows = tiled_rows 9;
  target = access (121 ∷ []) (over 9 ((3, pos 1) ∷ []) (pos 0));
  how = Add;
  value = body.Times (body.At (entry_in 9)) (body.At column_in_x);
  whole = None;
}

abbrev pub tiled : Kernel
tiled = record { head = head (matrix ∷ []) (n ∷ m ∷ z ∷ []) [] []; made = []; nests = tiled_sum ∷ tiled_product ∷ [] }
