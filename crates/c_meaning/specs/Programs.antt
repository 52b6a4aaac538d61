-- The run of a program on an input.
use Rattle.std.specs.Prelude.{◌≡◌, Bool, true, false, List, ℤ, None}
use Rattle.std.specs.List.{AllByRecursion, list_all}
use Rattle.c_tree.specs.declared.program.Array.{Array}
use Rattle.c_tree.specs.declared.program.Program.{Program}
use Rattle.c_tree.specs.declared.statement.Stmt.{Stmt, fold-Stmt}
use Rattle.c_tree.specs.declared.statement.Stmt.TheOpen.{Stmt-F, For, If, Assign, Put, Declare, Grow}
use Rattle.c_meaning.specs.Memory.{Memory}
use Rattle.c_meaning.specs.Inputs.{Input, start}
use Rattle.c_meaning.specs.Ground.{Step}
use Rattle.c_meaning.specs.Listing.{Item, listing, scene_of}
use Rattle.c_meaning.specs.Run.{Outcome, run}

-- the inspector's run from the input
abbrev pub inspection : Program → Input → Outcome
inspection p i = run p.inspector i.value (start p i)

-- the executor's run from what the inspector leaves
abbrev pub execution : Program → Input → Outcome
execution p i = run p.executor i.value (inspection p i).last

-- the program's list is the executor's list
abbrev pub list_of : Program → Input → List (Item Step)
list_of p i = (listing p.executor (scene_of i.value (inspection p i).last)).items

-- no access is outside its array, and no number is too large, in either section
pub record IsFine (p : Program) (i : Input) : Type 0 where
  pub inspector : (inspection p i).trouble ≡ None
  pub executor : (execution p i).trouble ≡ None

-- an array has the same extents and cells in both
pub record HasSameCells (a : Array) (m m' : Memory) : Type 0 where
  pub extents : m.extents a.name ≡ m'.extents a.name
  pub index : (at : List ℤ) → m.index a.name at ≡ m'.index a.name at
  pub cells : (at : List ℤ) → m.cells (record { array = a.name; at = at }) ≡ m'.cells (record { array = a.name; at = at })

-- each array of the signature is left as the other program leaves it
abbrev pub LeaveSameArrays : Program → Program → Input → Type 0
LeaveSameArrays p q i = AllByRecursion (λ a. HasSameCells a (execution p i).last (execution q i).last) p.arrays

-- an executor has loops, guards and assignments alone
abbrev pub executor_layer : Stmt-F Bool → Bool
executor_layer (For x low high body) = list_all (λ b. b) body
executor_layer (If tests body) = list_all (λ b. b) body
executor_layer (Assign target how value) = true
executor_layer (Put target value) = false
executor_layer (Declare name kind inner) = false
executor_layer (Grow name by) = false

unfoldable pub is_executor : Stmt → Bool
is_executor = fold-Stmt Bool executor_layer
