-- What statements are padded to, or the first condition that isn't met.
use Rattle.std.specs.Prelude.{◌≡◌, ◌<◌, IsTrue, ℕ, ◌+◌, ◌-◌, Bool, cond, not, ◌&&◌, nat_eq, nat_le, List, length, Option, Some, None, slice_get, Result, Ok, Err}
use Rattle.std.specs.List.{list_any}
use Rattle.chill_base.specs.declared.padding.Padding.{Padding}
use Rattle.c_tree.specs.declared.program.Matrix.{Matrix}
use Rattle.c_tree.specs.declared.program.Program.{Program}
use Rattle.nest_tree.specs.declared.fault.ShapeWhy.{ShapeWhy}
use Rattle.nest_tree.specs.declared.fault.ShapeWhy.TheVariants.{NoStatement, NoLoop, NotTraversal, NotProduct, NotAlone}
use Rattle.nest_tree.specs.declared.kernel.Kernel.{Kernel}
use Rattle.nest_tree.specs.declared.kernel.Nest.{Nest}
use Rattle.nest_core.specs.Shapes.{vars_of}
use Rattle.one_statement.specs.Alone.{any_shares}
use Rattle.pad_layouts.specs.Moved.{is_pick}
use Rattle.pad_layouts.specs.declared.layout.Layout.{Layout}
use Rattle.pad_layouts.specs.declared.layout.Layout.TheVariants.{Block, Diag, Rows}
use Rattle.pad_layouts.specs.declared.plan.Plan.{Plan}
use Rattle.pad_layouts.specs.Layouts.{layout_of, level_of}
use Rattle.pad_layouts.specs.Products.{find_read, is_product, writes}

-- how deep a statement is that can be padded
abbrev pub old_depth : Layout → ℕ
old_depth (Block rows cols swapped) = 5
old_depth Diag = 3
old_depth Rows = 2

-- the read of an entry's column, which a statement over rows may have
abbrev pub column_of : ℕ → Matrix → Layout → Nest → Option ℕ
column_of params m Rows n = find_read m.col (params + 1) (params + 2) n.terms
column_of params m (Block rows cols swapped) n = None
column_of params m Diag n = None

abbrev pub with_layout : ℕ → Nest → ℕ → Matrix → Option Layout → Option Plan
with_layout params n i m None = None
with_layout params n i m (Some l) = Some (record { layout = l; number = i; matrix = m; column = column_of params m l n })

abbrev pub with_matrix : ℕ → Nest → Padding → ℕ → Option Matrix → Option Plan
with_matrix params n kind i None = None
with_matrix params n kind i (Some m) = with_layout params n i m (layout_of kind n.levels)

abbrev pub with_number : Program → Nest → Padding → Option ℕ → Option Plan
with_number head n kind None = None
with_number head n kind (Some i) = with_matrix (length head.params) n kind i (slice_get head.matrices i)

-- the layout of a statement that goes over a whole matrix
unfoldable pub whole_plan : Program → Nest → Padding → Option Plan
whole_plan head n kind = with_number head n kind n.whole

-- the statement is a product with the entry's value, and no statement writes the values
abbrev pub can_pad : ℕ → List Nest → Nest → Plan → Bool
can_pad params nests n p = is_product p.matrix.value (params + (length n.levels - 1)) p.column n && not (list_any (writes p.matrix.value) nests)

-- one of d levels, and the one that the kind is made at
abbrev pub is_level : ℕ → ℕ → Padding → Bool
is_level d level kind = (nat_le 1 level && nat_le level d) && nat_eq level (level_of kind)

abbrev pub judged_plan : ℕ → List Nest → ℕ → Nest → Option Plan → Result Plan ShapeWhy
judged_plan params nests s n None = Err NotTraversal
judged_plan params nests s n (Some p) = cond (can_pad params nests n p) (cond (any_shares 0 s 1 n nests) (Err NotAlone) (Ok p)) (Err NotProduct)

-- the plan, or the first shape that holds: no such loop, not a whole traversal of the kind, not the product, not alone
abbrev pub nest_plan : Program → List Nest → ℕ → ℕ → Padding → Nest → Result Plan ShapeWhy
nest_plan head nests s level kind n = cond (is_level (length n.levels) level kind) (judged_plan (length head.params) nests s n (whole_plan head n kind)) (Err NoLoop)

abbrev pub plan_at : Program → List Nest → ℕ → ℕ → Padding → Option Nest → Result Plan ShapeWhy
plan_at head nests s level kind None = Err NoStatement
plan_at head nests s level kind (Some n) = nest_plan head nests s level kind n

unfoldable pub plan_of : Kernel → ℕ → ℕ → Padding → Result Plan ShapeWhy
plan_of k s level kind = plan_at k.head k.nests s level kind (slice_get k.nests s)

-- the plan is one of the statement
pub record IsPlan (head : Program) (n : Nest) (p : Plan) : Type 0 where
  pub depth : length n.levels ≡ old_depth p.layout
  pub number : p.number < length head.matrices
  pub column : IsTrue (is_pick (vars_of (length head.params) n) p.column)

pub record IsPlanAt (k : Kernel) (s : ℕ) (p : Plan) : Type 0 where
  pub nest : Nest
  pub found : slice_get k.nests s ≡ Some nest
  pub plan : IsPlan k.head nest p
