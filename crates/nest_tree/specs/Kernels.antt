-- Instances of statements on an input, and the list of a kernel.
use Rattle.std.specs.Prelude.{◌≡◌, ◌+◌, List, ◌++◌, length, ℤ}
use Rattle.nest_tree.specs.declared.kernel.Nest.{Nest}
use Rattle.nest_tree.specs.declared.kernel.KernelRow.{KernelRow}
use Rattle.nest_tree.specs.Lists.{IsIn, IsListOf}
use Rattle.nest_tree.specs.Places.{place, IsInstance, Item, Precedes}
use Rattle.nest_tree.specs.Forms.{MeetsRow}
use Rattle.nest_tree.specs.Terms.{Input, term_values, IsReadable}

-- the values of a statement's variables at level values: parameters, levels, terms
abbrev pub point : Input → Nest → List ℤ → List ℤ
point i n vs = i.params ++ (vs ++ term_values i n.terms (i.params ++ vs))

-- the terms in the row find their cells, and its relation holds
pub record IsMet (i : Input) (n : Nest) (vs : List ℤ) (r : KernelRow) : Type 0 where
  pub readable : IsReadable i (length i.params + length vs) n.terms (point i n vs) (r.row).form
  pub holds : MeetsRow (point i n vs) r.row

-- level values at which a statement has an item: they meet all its rows
pub record IsPointOf (i : Input) (n : Nest) (vs : List ℤ) : Type 0 where
  pub instance : IsInstance n.positions vs
  pub meets : (r : KernelRow) → IsIn r n.rows → IsMet i n vs r

-- what a statement does where its variables have these values
abbrev pub Acting : Type 0 → Type 0
Acting T = Nest → List ℤ → T

-- the item of a statement at level values
abbrev pub item_at : {T : Type 0} → Acting T → Input → Nest → List ℤ → Item T
item_at act i n vs = record { place = place n.positions vs; step = act n (point i n vs) }

-- an item of the kernel: a statement at level values that are a point of it
pub record IsItemOf {T : Type 0} (act : Acting T) (i : Input) (nests : List Nest) (x : Item T) : Type 0 where
  pub nest : Nest
  pub is_in : IsIn nest nests
  pub levels : List ℤ
  pub is_point : IsPointOf i nest levels
  pub is : x ≡ item_at act i nest levels

-- the kernel's list: one item for each statement and point, sorted by place
abbrev pub IsKernelList : {T : Type 0} → Acting T → Input → List Nest → List (Item T) → Type 0
IsKernelList act i nests xs = IsListOf Precedes (IsItemOf act i nests) xs

-- no two statements have the same positions
abbrev pub AreDistinct : List Nest → Type 0
AreDistinct nests = (n m : Nest) → IsIn n nests → IsIn m nests → n.positions ≡ m.positions → n ≡ m
