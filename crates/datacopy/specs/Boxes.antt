-- Boxes of arrays.
use Rattle.std.specs.Prelude.{◌≡◌, ◌≤◌, ℕ, Bool, IsTrue, nat_eq, length, List, ℤ, Some, slice_get}
use Rattle.std.specs.List.{list_all}
use Rattle.nest_tree.specs.declared.kernel.Kernel.{Kernel}
use Rattle.nest_core.specs.Shapes.{vars_of}
use Rattle.datacopy.specs.Reads.{reads_of}
use Rattle.nest_tree.specs.declared.body.Access.{Access}
use Rattle.nest_tree.specs.declared.kernel.Nest.{Nest}
use Rattle.nest_core.specs.Forms.{has_vars}
use Rattle.datacopy.specs.declared.side.Side.{Side}

-- a side whose base is over n variables
abbrev pub is_side_over : ℕ → Side → Bool
is_side_over n s = has_vars n s.base

abbrev pub coefs_of : Side → List ℤ
coefs_of s = s.base.coefs

-- the cell has so many subscripts
abbrev pub has_subscripts : ℕ → Access → Bool
has_subscripts d a = nat_eq (length a.at) d

-- the sides are those of a box that a statement reads of an array while its levels from this one on vary
pub record IsReadBox (k : Kernel) (s level : ℕ) (array : List ℕ) (sides : List Side) : Type 0 where
  pub nest : Nest
  pub found : slice_get k.nests s ≡ Some nest
  pub low : 1 ≤ level
  pub high : level ≤ length nest.levels
  pub some : 1 ≤ length sides
  pub few : length sides ≤ 3
  pub over : IsTrue (list_all (is_side_over (vars_of (length k.head.params) nest)) sides)
  pub reads : IsTrue (list_all (has_subscripts (length sides)) (reads_of array nest.value))
