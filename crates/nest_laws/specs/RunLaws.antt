-- Laws of runs: an executor without faults performs the list of its loops, and the loops that scan a kernel have the kernel's list.
use Rattle.std.specs.Prelude.{◌≡◌, ℕ, Bool, IsTrue, List, [], ◌++◌, map, None}
use Rattle.c_tree.specs.declared.statement.Stmt.{Stmt}
use Rattle.c_meaning.specs.Ground.{Step}
use Rattle.c_meaning.specs.Listing as listing
use Rattle.c_meaning.specs.Listing.{Scene}
use Rattle.nest_tree.specs.declared.kernel.Nest.{Nest}
use Rattle.nest_tree.specs.declared.kernel.KernelRow.{KernelRow}
use Rattle.nest_tree.specs.Lists.{IsIn, IsListOf}
use Rattle.nest_tree.specs.Places.{place, Item, Precedes}
use Rattle.nest_tree.specs.Terms.{Input}
use Rattle.nest_tree.specs.Kernels.{point, IsMet, IsKernelList}
use Rattle.nest_tree.specs.Loops.{Levels, Loops, performed, IsPerformed}
use Rattle.nest_tree.specs.Scans.{Leaf, Within, leaves, IsOfLeaf, Slot, Maker, IsScan, IsSoundMaker}
use Rattle.nest_laws.specs.Acts.{act}
use Rattle.nest_laws.specs.Trees.{IsFine, without_faults, tree_of}

-- items as those of a listing
abbrev pub as_items : List (Item Step) → List (listing.Item Step)
as_items xs = map (λ x. record { place = x.place; step = x.step }) xs

-- where nothing that an executor reaches has a fault, its listing has none, and has exactly the items that the loops perform, sorted by place; d stands where there is no step
abbrev pub ExecutorPerformsItsLoops : Type 0
ExecutorPerformsItsLoops =
    (body : List Stmt) (c : Scene) (d : Step) → IsFine (tree_of body c) []
    → (listing.listing body c ≡ record { items = as_items (performed (without_faults d (tree_of body c)) [] 0); trouble = None })
    × IsListOf Precedes (IsPerformed (without_faults d (tree_of body c)) [] 0) (performed (without_faults d (tree_of body c)) [] 0)

-- an item is performed exactly where it is of a leaf, within all bounds and tests around that leaf
abbrev pub LeavesTellPerformed : Type 0
LeavesTellPerformed =
    (t : Loops Step) (e : Levels) (n : ℕ)
    → ((x : Item Step) → IsPerformed t e n x → IsOfLeaf (leaves t n) e x)
    × ((l : Leaf Step) (vs : Levels) → IsIn l (leaves t n) → Within l.around e vs → IsPerformed t e n (record { place = place l.positions vs; step = l.step (e ++ vs) }))

-- the level values meet the statement's rows
abbrev pub MeetsRows : Input → Nest → Levels → Type 0
MeetsRows i n vs = (r : KernelRow) → IsIn r n.rows → IsMet i n vs r

abbrev pub slots_of : List Nest → List (Slot Nest)
slots_of nests = map (λ n. record { left = n.positions; of = n }) nests

-- the loops that scan a kernel, with bounds and tests that fit its points, perform the kernel's list
abbrev pub ScanHasKernelList : Type 0
ScanHasKernelList =
    (i : Input) (nests : List Nest) (m : Maker Nest Step) (known : Slot Nest → Levels → Bool) (t : Loops Step)
    → IsSoundMaker m (MeetsRows i) known → ((n : Nest) (vs : Levels) → m.step n vs ≡ act n (point i n vs))
    → IsScan m t (slots_of nests) 0 [] → ((s : Slot Nest) → IsIn s (slots_of nests) → IsTrue (known s [])) → IsKernelList act i nests (performed t [] 0)
