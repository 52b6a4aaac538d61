-- Laws of scans: what is printed for a kernel runs without a fault and performs the kernel's list, and bounds that are made from rows fit.
use Rattle.std.specs.Prelude.{◌≡◌, ◌↔◌, ◌+◌, Bool, IsTrue, List, [], ◌∷◌, ◌++◌, map, length, ℤ, ◌≤ℤ◌, ◌<ℤ◌, None}
use Rattle.c_tree.specs.declared.statement.Stmt.{Stmt}
use Rattle.c_meaning.specs.Ground.{Step}
use Rattle.c_meaning.specs.Listing.{Scene, listing}
use Rattle.int_rows.specs.declared.row.Row.{Row}
use Rattle.nest_tree.specs.declared.kernel.Nest.{Nest}
use Rattle.nest_tree.specs.Lists.{IsIn}
use Rattle.nest_tree.specs.Places.{Item}
use Rattle.nest_tree.specs.Forms.{MeetsRow}
use Rattle.nest_tree.specs.Terms.{Input, IsDirect}
use Rattle.nest_tree.specs.Kernels.{point, IsKernelList}
use Rattle.nest_tree.specs.Loops.{Levels}
use Rattle.nest_tree.specs.Scans.{Slot, Maker, IsSoundMaker}
use Rattle.nest_laws.specs.Acts.{act}
use Rattle.nest_laws.specs.Trees.{tree_of}
use Rattle.nest_laws.specs.RunLaws.{as_items, MeetsRows, slots_of}
use Rattle.scan_laws.specs.Printing.{IsPrinted}
use Rattle.scan_laws.specs.Bounds.{lowers, uppers}
use Rattle.scan_laws.specs.Rows.{depth, rest, next, Scanned, maker, is_known, IsFull, IsReadyWhereNeeded, slots}

-- the run of an executor has no fault, and its items are those of the kernel
pub record HasKernelList (i : Input) (nests : List Nest) (body : List Stmt) (c : Scene) : Type 0 where
  pub items : List (Item Step)
  pub are : IsKernelList act i nests items
  pub is : listing body c ≡ record { items = as_items items; trouble = None }

-- an executor that is printed for a kernel's statements, by bounds and tests that fit their points, has no fault and performs the kernel's list
abbrev pub PrintedExecutorHasKernelList : Type 0
PrintedExecutorHasKernelList =
    (i : Input) (nests : List Nest) (m : Maker Nest Step) (known : Slot Nest → Levels → Bool) (body : List Stmt) (c : Scene)
    → IsSoundMaker m (MeetsRows i) known → ((n : Nest) (vs : Levels) → m.step n vs ≡ act n (point i n vs)) → ((s : Slot Nest) → IsIn s (slots_of nests) → IsTrue (known s []))
    → IsPrinted m (tree_of body c) (slots_of nests) 0 [] → HasKernelList i nests body c

-- each of the numbers is at most v, or above v
abbrev pub AreAtMost : List ℤ → ℤ → Type 0
AreAtMost ns v = (n : ℤ) → IsIn n ns → n ≤ℤ v

abbrev pub AreAbove : List ℤ → ℤ → Type 0
AreAbove ns v = (n : ℤ) → IsIn n ns → v <ℤ n

-- rows that are direct at a level hold exactly where the level's value is within the bounds that they give
abbrev pub DirectRowsAreBounds : Type 0
DirectRowsAreBounds =
    (i : Input) (n : Nest) (rows : List Row) (e : Levels) (v : ℤ) (vs : Levels) → length (e ++ v ∷ vs) ≡ depth n
    → ((r : Row) → IsIn r rows → IsDirect (length i.params + depth n) (next i e) n.terms r.form)
    → ((r : Row) → IsIn r rows → MeetsRow (point i n (e ++ v ∷ vs)) r) ↔ (AreAtMost (lowers (next i e) (rest i n e) rows) v × AreAbove (uppers (next i e) (rest i n e) rows) v)

-- bounds that are made from all rows of all statements of a group fit the group's points
abbrev pub RowsMakeSoundBounds : Type 0
RowsMakeSoundBounds =
    (i : Input) (ready : List (Slot (Scanned i)) → Levels → Bool) → IsReadyWhereNeeded i ready → IsSoundMaker (maker i ready) IsFull is_known

-- so what is printed by them runs without a fault and performs the list of the kernel of these statements
abbrev pub ScannedKernelHasItsList : Type 0
ScannedKernelHasItsList =
    (i : Input) (ss : List (Scanned i)) (ready : List (Slot (Scanned i)) → Levels → Bool) (body : List Stmt) (c : Scene) → IsReadyWhereNeeded i ready
    → IsPrinted (maker i ready) (tree_of body c) (slots ss) 0 [] → HasKernelList i (map (λ s. s.nest) ss) body c
