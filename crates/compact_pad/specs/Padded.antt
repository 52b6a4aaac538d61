-- What paddings make of kernels.
use Rattle.std.specs.Prelude.{◌≡◌, ℕ, List, length, Option, Some, None, slice_get}
use Rattle.nest_tree.specs.declared.kernel.Kernel.{Kernel}
use Rattle.nest_tree.specs.declared.kernel.Nest.{Nest}
use Rattle.one_statement.specs.Put.{put}
use Rattle.pad_layouts.specs.declared.block.Sides.{Sides}
use Rattle.pad_layouts.specs.declared.layout.Layout.{Layout}
use Rattle.pad_layouts.specs.declared.layout.Layout.TheVariants.{Block, Diag, Rows}
use Rattle.pad_layouts.specs.declared.plan.Plan.{Plan}
use Rattle.compact_pad.specs.declared.kinds.Entered.{Entered}
use Rattle.compact_pad.specs.Entering.{blocks, diagonals, rows}
use Rattle.compact_pad.specs.Names.{kept_names, row_names, name_shape}
use Rattle.compact_pad.specs.Tested.{tested_levels, FindNone}

abbrev pub with_names : {A : Type 0} → (A → Entered) → Option A → Option Entered
with_names f (Some b) = Some (f b)
with_names f None = None

abbrev pub named_blocks : List (List ℕ) → Nest → Plan → Sides → List ℕ → Option Entered
named_blocks params n p s name = with_names (blocks params n p s) (kept_names name)

abbrev pub named_diagonals : List (List ℕ) → Nest → Plan → List ℕ → Option Entered
named_diagonals params n p name = with_names (diagonals params n p) (kept_names name)

abbrev pub named_rows : List (List ℕ) → Nest → Plan → List ℕ → Option Entered
named_rows params n p name = with_names (rows params n p) (row_names name)

abbrev pub entered_for : List (List ℕ) → Nest → Plan → List ℕ → Layout → Option Entered
entered_for params n p name (Block rows cols swapped) = named_blocks params n p (record { rows = rows; cols = cols; swapped = swapped }) name
entered_for params n p name Diag = named_diagonals params n p name
entered_for params n p name Rows = named_rows params n p name

-- the statement, the arrays and the lines of a plan, under names with that prefix
abbrev pub entered : List (List ℕ) → Nest → Plan → List ℕ → Option Entered
entered params n p name = entered_for params n p name p.layout

-- it is what the plan brings in for the statement
pub record IsPut (k : Kernel) (s : ℕ) (p : Plan) (name : List ℕ) (e : Entered) : Type 0 where
  pub nest : Nest
  pub found : slice_get k.nests s ≡ Some nest
  pub is : entered k.head.params nest p name ≡ Some e

-- the padded statement stands in the place of statement s, its arrays behind the made ones, its lines behind the inspector's; their names could be made, and no test finds a dependence
pub record IsPadded (old new : Kernel) (s : ℕ) (p : Plan) (name : List ℕ) : Type 0 where
  pub brought : Entered
  pub is : IsPut old s p name brought
  pub put : new ≡ put old s brought.nest brought.made brought.lines
  pub named : name_shape old p.layout name ≡ None
  pub tested : FindNone old s (tested_levels p.layout)
