-- Worked cases: a loop that copies an array, a bound with a read, and an expression of a small size.
use Rattle.std.specs.Prelude.{◌≡◌, ◌↔◌, ℕ, zero, suc, ◌+◌, ◌≤◌, ◌^◌, ℤ, pos, negsuc, ◌≤ℤ◌, ◌<ℤ◌, List, [], ◌∷◌, Bool, true, false, IsTrue, Option, Some, None, Ok}
use Rattle.int_rows.specs.declared.row.Aff.{Aff}
use Rattle.int_rows.specs.declared.row.Row.{Row}
use Rattle.c_tree.specs.declared.index.Index.{Index}
use Rattle.c_tree.specs.declared.index.Index.TheVariants.{Const, Var, At, Plus, Minus}
use Rattle.c_tree.specs.declared.index.Subscripts.TheVariants.{One}
use Rattle.c_tree.specs.declared.statement.How.TheVariants.{Write}
use Rattle.c_meaning.specs.Weighed.{greatest}
use Rattle.c_meaning.specs.Value.{Sight, value_of}
use Rattle.c_meaning.specs.Ground.{Step}
use Rattle.c_meaning.specs.Examples.{b, c, i, scene, copy_loop, copied}
use Rattle.nest_tree.specs.declared.kernel.Nest.{Nest}
use Rattle.nest_tree.specs.declared.kernel.Term.{Term}
use Rattle.nest_tree.specs.declared.body.Body.TheVariants.{At as Read}
use Rattle.nest_tree.specs.declared.form.Form.TheVariants.{Other}
use Rattle.nest_tree.specs.Lists.{IsIn}
use Rattle.nest_tree.specs.Forms.{value, MeetsRow}
use Rattle.nest_tree.specs.Terms.{Input, IsCut, IsDirect, with_terms}
use Rattle.nest_tree.specs.Loops.{Levels, Loops, performed}
use Rattle.nest_tree.specs.Kernels.{point, IsKernelList}
use Rattle.nest_tree.specs.Scans.{Slot, Maker, IsScan, IsSoundMaker}
use Rattle.nest_laws.specs.Acts.{act}
use Rattle.nest_laws.specs.Trees.{IsFine, without_faults, tree_of}
use Rattle.nest_laws.specs.RunLaws.{as_items, MeetsRows, slots_of}
use Rattle.nest_laws.specs.Weights.{Sizes, HasSize}
use Rattle.scan_laws.specs.Printing.{IsPrinted}
use Rattle.scan_laws.specs.Rows.{Scanned, maker, is_known, IsFull, IsReadyWhereNeeded, slots}
use Rattle.scan_laws.specs.Laws.{HasKernelList}

abbrev pub form : List ℤ → ℤ → Aff
form cs k = record { coefs = cs; constant = k }

abbrev pub at_least_zero : Aff → Row
at_least_zero f = record { form = f; equal = false }

-- the variables n and i: i >= 0 and n-1-i >= 0
abbrev pub from_zero : Row
from_zero = at_least_zero (form (pos 0 ∷ pos 1 ∷ []) (pos 0))

abbrev pub below_n : Row
below_n = at_least_zero (form (pos 1 ∷ negsuc 0 ∷ []) (negsuc 0))

-- for i from 0 to below n: b[i] = c[i]
abbrev pub copy_nest : Nest
copy_nest = record {
  levels = Other ∷ [];
  positions = 0 ∷ 0 ∷ [];
  terms = [];
  rows = record { row = from_zero; own = 1 } ∷ record { row = below_n; own = 1 } ∷ [];
  target = record { array = b; at = form (pos 0 ∷ pos 1 ∷ []) (pos 0) ∷ [] };
  how = Write;
  value = Read (record { array = c; at = form (pos 0 ∷ pos 1 ∷ []) (pos 0) ∷ [] });
  whole = None;
}

-- n is k, and there are no index arrays
abbrev pub copy_input : ℕ → Input
copy_input k = record { params = pos k ∷ []; cells = λ a at. None }

-- the run of the copying loop has no fault, and its items are the copies
abbrev pub WorkedExecutor : Type 0
WorkedExecutor =
    (d : Step) → IsFine (tree_of copy_loop (scene 2)) [] × (as_items (performed (without_faults d (tree_of copy_loop (scene 2))) [] 0) ≡ copied 0 ∷ copied 1 ∷ [])

-- bounds that are made from its two rows are sound, and the loop is printed for its kernel by them, without a test
abbrev pub WorkedPrinting : Type 0
WorkedPrinting =
    (k : ℕ) → k ≤ greatest → IsReadyWhereNeeded (copy_input k) (λ group e. true) × IsSoundMaker (maker (copy_input k) (λ group e. true)) IsFull is_known
    × ((s : Scanned (copy_input k)) × (s.nest ≡ copy_nest) × IsPrinted (maker (copy_input k) (λ group e. true)) (tree_of copy_loop (scene k)) (slots (s ∷ [])) 0 []) × HasKernelList (copy_input k) (copy_nest ∷ []) copy_loop (scene k)

-- it is also printed by the bounds 0 and k and a test of the rows, which is true in each turn, so the assignment stands without it
abbrev pub WorkedAlone : Type 0
WorkedAlone =
    (k : ℕ) → k ≤ greatest → (m : Maker Nest Step) × (known : Slot Nest → Levels → Bool) × IsSoundMaker m (MeetsRows (copy_input k)) known × ((n : Nest) (vs : Levels) → m.step n vs ≡ act n (point (copy_input k) n vs))
    × ((s : Slot Nest) → IsTrue (known s [])) × IsPrinted m (tree_of copy_loop (scene k)) (slots_of (copy_nest ∷ [])) 0 [] × HasKernelList (copy_input k) (copy_nest ∷ []) copy_loop (scene k)

-- its two rows hold at a value exactly where that is at least 0 and below k
abbrev pub WorkedRows : Type 0
WorkedRows =
    (k : ℕ) (v : ℤ) → ((r : Row) → IsIn r (from_zero ∷ below_n ∷ []) → IsDirect 2 1 [] r.form)
    × (((r : Row) → IsIn r (from_zero ∷ below_n ∷ []) → MeetsRow (point (copy_input k) copy_nest (v ∷ [])) r) ↔ ((pos 0 ≤ℤ v) × (v <ℤ pos k)))

-- a maker and loops that meet what is asked of a scan, for the kernel of that loop
abbrev pub WorkedScan : Type 0
WorkedScan =
    (k : ℕ) → (m : Maker Nest Step) × (known : Slot Nest → Levels → Bool) × (t : Loops Step) × IsSoundMaker m (MeetsRows (copy_input k)) known × ((n : Nest) (vs : Levels) → m.step n vs ≡ act n (point (copy_input k) n vs))
    × IsScan m t (slots_of (copy_nest ∷ [])) 0 [] × ((s : Slot Nest) → IsTrue (known s [])) × IsKernelList act (copy_input k) (copy_nest ∷ []) (performed t [] 0)

-- the index array x has the cells 0, 2, 5, 6
abbrev pub x : List ℕ
x = 120 ∷ []

abbrev pub cells_of_x : List ℤ → Option ℤ
cells_of_x (pos zero ∷ []) = Some (pos 0)
cells_of_x (pos (suc zero) ∷ []) = Some (pos 2)
cells_of_x (pos (suc (suc zero)) ∷ []) = Some (pos 5)
cells_of_x (pos (suc (suc (suc zero))) ∷ []) = Some (pos 6)
cells_of_x _ = None

abbrev pub x_input : Input
x_input = record { params = pos 3 ∷ []; cells = λ a at. cells_of_x at }

-- the variables n, i, k, x[i], x[i+1]
abbrev pub x_terms : List Term
x_terms = record { array = x; at = form (pos 0 ∷ pos 1 ∷ []) (pos 0) ∷ [] } ∷ record { array = x; at = form (pos 0 ∷ pos 1 ∷ []) (pos 1) ∷ [] } ∷ []

-- x[i+1]-1-k
abbrev pub below_next : Aff
below_next = form (pos 0 ∷ pos 0 ∷ negsuc 0 ∷ pos 0 ∷ pos 1 ∷ []) (negsuc 0)

-- in row 1 the form x[i+1]-1-k is direct at k, and says that k is below 5
abbrev pub WorkedBounds : Type 0
WorkedBounds =
    (k : ℤ) → let p : List ℤ = pos 3 ∷ pos 1 ∷ k ∷ [] in let q : List ℤ = pos 3 ∷ pos 1 ∷ pos 0 ∷ [] in
    IsCut 2 p q × IsDirect 3 2 x_terms below_next × (value (with_terms x_input x_terms q) below_next ≡ pos 4) × ((pos 0 ≤ℤ value (with_terms x_input x_terms p) below_next) ↔ (k <ℤ pos 5))

-- i is 1
abbrev pub x_sight : Sight
x_sight = record { value = λ y. pos 1; extents = λ a. pos 4 ∷ pos 1 ∷ pos 1 ∷ []; index = λ a at. pos 5 }

abbrev pub x_sizes : Sizes
x_sizes = record { names = λ y. 2 ^ 24; cells = λ a. 2 ^ 24 }

-- x[i+1]-1
abbrev pub before_next : Index
before_next = Minus (At (record { array = x; at = One (Plus (Var i) (Const (pos 1))) })) (Const (pos 1))

-- it has the value 4 and the size 2^24+1, so no fault
abbrev pub WorkedSize : Type 0
WorkedSize = HasSize x_sizes x_sight before_next (pos 4) (2 ^ 24 + 1) × (value_of before_next x_sight ≡ Ok (pos 4))
