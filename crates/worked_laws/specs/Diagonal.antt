-- A worked kernel: `b[i][j] = b[i-1][j+1]` for i from 1 to below n and j from 0 to below m-1, walked along its diagonals
-- (t1 = i + j, t2 = i). For n = m = 3 its list has four assignments.
use Rattle.std.specs.Prelude.{ℕ, List, [], ◌∷◌, ℤ, pos, negsuc, None, false}
use Rattle.int_rows.specs.declared.row.Aff.{Aff}
use Rattle.c_tree.specs.declared.statement.How.TheVariants.{Write}
use Rattle.c_meaning.specs.Ground.{load, Step}
use Rattle.nest_tree.specs.declared.kernel.Nest.{Nest}
use Rattle.nest_tree.specs.declared.kernel.KernelRow.{KernelRow}
use Rattle.nest_tree.specs.declared.body.Access.{Access}
use Rattle.nest_tree.specs.declared.body.Body.TheVariants.{At}
use Rattle.nest_tree.specs.declared.form.Form.TheVariants.{Other}
use Rattle.nest_tree.specs.Places.{Item}
use Rattle.nest_tree.specs.Terms.{Input}
use Rattle.nest_tree.specs.Kernels.{IsKernelList}
use Rattle.nest_laws.specs.Acts.{act}

abbrev pub input : Input
input = record { params = pos 3 ∷ pos 3 ∷ []; cells = λ a at. None }

-- a form of n, m, t1, t2
abbrev pub form : ℤ → ℤ → ℤ → ℤ → ℤ → Aff
form n m t1 t2 c = record { coefs = n ∷ m ∷ t1 ∷ t2 ∷ []; constant = c }

abbrev pub at_least_zero : Aff → ℕ → KernelRow
at_least_zero f own = record { row = record { equal = false; form = f }; own = own }

-- i >= 1, i <= n-1, j >= 0, j <= m-2, where i = t2 and j = t1-t2
abbrev pub rows : List KernelRow
rows =
    at_least_zero (form (pos 0) (pos 0) (pos 0) (pos 1) (negsuc 0)) 2
    ∷ at_least_zero (form (pos 1) (pos 0) (pos 0) (negsuc 0) (negsuc 0)) 2
    ∷ at_least_zero (form (pos 0) (pos 0) (pos 1) (negsuc 0) (pos 0)) 2
    ∷ at_least_zero (form (pos 0) (pos 1) (negsuc 0) (pos 1) (negsuc 1)) 2
    ∷ []

abbrev pub cell : ℤ → ℤ → Access
cell row column = record { array = 98 ∷ []; at = form (pos 0) (pos 0) (pos 0) (pos 1) row ∷ form (pos 0) (pos 0) (pos 1) (negsuc 0) column ∷ [] }

abbrev pub nest : Nest
nest = record {
  levels = Other ∷ Other ∷ [];
  positions = 0 ∷ 0 ∷ 0 ∷ [];
  terms = [];
  rows = rows;
  target = cell (pos 0) (pos 0);
  how = Write;
  value = At (cell (negsuc 0) (pos 1));
  whole = None;
}

-- b[i][j] = b[k][l], at its place
abbrev pub assignment : ℤ → ℤ → ℤ → ℤ → ℤ → ℤ → Item Step
assignment t1 t2 i j k l = record {
  place = pos 0 ∷ t1 ∷ pos 0 ∷ t2 ∷ pos 0 ∷ [];
  step = record {
    target = record { array = 98 ∷ []; at = i ∷ j ∷ pos 0 ∷ [] };
    how = Write;
    value = load (record { array = 98 ∷ []; at = k ∷ l ∷ pos 0 ∷ [] });
  };
}

abbrev pub list : List (Item Step)
list =
    assignment (pos 1) (pos 1) (pos 1) (pos 0) (pos 0) (pos 1)
    ∷ assignment (pos 2) (pos 1) (pos 1) (pos 1) (pos 0) (pos 2)
    ∷ assignment (pos 2) (pos 2) (pos 2) (pos 0) (pos 1) (pos 1)
    ∷ assignment (pos 3) (pos 2) (pos 2) (pos 1) (pos 1) (pos 2)
    ∷ []

-- the kernel's list, as places and assignments
abbrev pub DiagonalKernel : Type 0
DiagonalKernel = IsKernelList act input (nest ∷ []) list
