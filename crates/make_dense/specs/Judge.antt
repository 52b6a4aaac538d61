-- What the command needs, and the lowest condition that isn't met.
use Rattle.std.specs.Prelude.{◌≡◌, ◌≤◌, ◌<◌, ℕ, cond, nat_le, List, length, Option, Some, None, Result, Ok, Err, slice_get}
use Rattle.c_tree.specs.declared.program.Matrix.{Matrix}
use Rattle.c_tree.specs.declared.program.Program.{Program}
use Rattle.nest_tree.specs.declared.fault.ShapeWhy.{ShapeWhy}
use Rattle.nest_tree.specs.declared.fault.ShapeWhy.TheVariants.{NoStatement, NoLoop, NotTraversal, NotAlone, Limit}
use Rattle.nest_tree.specs.declared.kernel.Kernel.{Kernel}
use Rattle.nest_tree.specs.declared.kernel.Nest.{Nest}
use Rattle.nest_core.specs.Making.{after}
use Rattle.nest_core.specs.Shapes.{IsShapedNest}
use Rattle.affine_moves.specs.Change.{is_level}
use Rattle.one_statement.specs.Alone.{any_shares}
use Rattle.make_dense.specs.Bounds.{matrix_of}

-- the thing, or the shape where there is none
abbrev pub or_shape : {A : Type 0} → ShapeWhy → Option A → Result A ShapeWhy
or_shape why (Some x) = Ok x
or_shape why None = Err why

-- the matrix that the level goes over, where it is one of the statement's
abbrev pub matrix_at : Program → Nest → ℕ → Result Matrix ShapeWhy
matrix_at head n level = cond (is_level (length n.levels) level) (or_shape NotTraversal (matrix_of head n level)) (Err NoLoop)

-- the statement is alone in the loop and has room for a level more
abbrev pub has_place : List Nest → ℕ → ℕ → Nest → Matrix → Result Matrix ShapeWhy
has_place nests s level n m = cond (any_shares 0 s level n nests) (Err NotAlone) (cond (nat_le 8 (length n.levels)) (Err Limit) (Ok m))

abbrev pub nest_matrix : Program → List Nest → ℕ → ℕ → Nest → Result Matrix ShapeWhy
nest_matrix head nests s level n = after (matrix_at head n level) (has_place nests s level n)

abbrev pub matrix_for : Kernel → ℕ → ℕ → Option Nest → Result Matrix ShapeWhy
matrix_for k s level None = Err NoStatement
matrix_for k s level (Some n) = nest_matrix k.head k.nests s level n

-- the matrix over whose rows' entries the level of statement s goes, or the lowest shape that holds
abbrev pub judged_matrix : Kernel → ℕ → ℕ → Result Matrix ShapeWhy
judged_matrix k s level = matrix_for k s level (slice_get k.nests s)

-- statement s is this one, and it can have a level more before this level
pub record IsJudged (k : Kernel) (s level : ℕ) (n : Nest) : Type 0 where
  pub found : slice_get k.nests s ≡ Some n
  pub shaped : IsShapedNest k.head n
  pub low : 1 ≤ level
  pub high : level ≤ length n.levels
  pub few : length n.levels < 8
