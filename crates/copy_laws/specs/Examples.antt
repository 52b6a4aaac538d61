-- A worked case: d[i] = x[0] for i from 0 to 1, where x[0] is copied first.
use Rattle.std.specs.Prelude.{◌≡◌, ℕ, List, [], ◌∷◌, ℤ, pos, negsuc, false, None}
use Rattle.c_tree.specs.declared.statement.How.TheVariants.{Write}
use Rattle.c_meaning.specs.Memory.{Spot, Cells}
use Rattle.c_meaning.specs.Ground.{load, Step}
use Rattle.nest_tree.specs.declared.kernel.Nest.{Nest}
use Rattle.nest_tree.specs.declared.kernel.KernelRow.{KernelRow}
use Rattle.nest_tree.specs.declared.body.Access.{Access}
use Rattle.nest_tree.specs.declared.body.Body.TheVariants.{At}
use Rattle.nest_tree.specs.declared.form.Form.TheVariants.{Other}
use Rattle.nest_tree.specs.Places.{Item}
use Rattle.nest_tree.specs.Terms.{Input}
use Rattle.nest_tree.specs.Kernels.{IsKernelList}
use Rattle.nest_laws.specs.Acts.{act}
use Rattle.nest_laws.specs.ListLaws.{effect_of}
use Rattle.copy_laws.specs.Copying.{Copying, IsSoundCopy, IsCopiedList, statements}

abbrev pub d : List ℕ
d = 100 ∷ []

abbrev pub e : List ℕ
e = 101 ∷ []

abbrev pub x : List ℕ
x = 120 ∷ []

-- a*v + k >= 0 over the one level v
abbrev pub row : ℤ → ℤ → KernelRow
row a k = record { row = record { form = record { coefs = a ∷ []; constant = k }; equal = false }; own = 1 }

abbrev pub first_of : List ℕ → Access
first_of a = record { array = a; at = record { coefs = []; constant = pos 0 } ∷ [] }

-- an assignment in one loop, with these rows
abbrev pub in_loop : List KernelRow → Nest
in_loop rows = record {
  levels = Other ∷ [];
  positions = 0 ∷ 0 ∷ [];
  terms = [];
  rows = rows;
  target = record { array = d; at = record { coefs = pos 1 ∷ []; constant = pos 0 } ∷ [] };
  how = Write;
  value = At (first_of x);
  whole = None;
}

-- the box is the cell 0, before the loop
abbrev pub two_reads : Copying
two_reads = record {
  array = x;
  copy = e;
  front = [];
  at = 0;
  base = record { coefs = []; constant = pos 0 } ∷ [];
  box = in_loop (row (pos 1) (pos 0) ∷ row (negsuc 0) (pos 0) ∷ []);
  reader = in_loop (row (pos 1) (pos 0) ∷ row (negsuc 0) (pos 1) ∷ []);
  others = [];
}

abbrev pub no_input : Input
no_input = record { params = []; cells = λ a at. None }

abbrev pub line : List ℕ → ℤ → Spot
line a k = record { array = a; at = k ∷ pos 0 ∷ pos 0 ∷ [] }

abbrev pub gets : Spot → Spot → Step
gets t s = record { target = t; how = Write; value = load s }

abbrev pub old_list : List (Item Step)
old_list =
    record { place = pos 0 ∷ pos 0 ∷ pos 0 ∷ []; step = gets (line d (pos 0)) (line x (pos 0)) }
    ∷ record { place = pos 0 ∷ pos 1 ∷ pos 0 ∷ []; step = gets (line d (pos 1)) (line x (pos 0)) } ∷ []

abbrev pub new_list : List (Item Step)
new_list =
    record { place = pos 0 ∷ pos 0 ∷ pos 0 ∷ []; step = gets (line e (pos 0)) (line x (pos 0)) }
    ∷ record { place = pos 1 ∷ pos 0 ∷ pos 0 ∷ []; step = gets (line d (pos 0)) (line e (pos 0)) }
    ∷ record { place = pos 1 ∷ pos 1 ∷ pos 0 ∷ []; step = gets (line d (pos 1)) (line e (pos 0)) } ∷ []

-- the two lists are those of the definitions, what the command owes holds, and so d[1] is the same
abbrev pub WorkedCopy : Type 0
WorkedCopy =
    IsSoundCopy no_input two_reads × IsKernelList act no_input (statements two_reads) old_list × IsCopiedList no_input two_reads new_list
    × ((s : Cells) → effect_of new_list s (line d (pos 1)) ≡ effect_of old_list s (line d (pos 1)))
