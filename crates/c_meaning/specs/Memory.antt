-- What a run holds: the extents and the cells of its arrays.
use Rattle.std.specs.Prelude.{ℕ, ℤ, Bool, ◌&&◌, List, if◌then◌else◌}
use Rattle.c_meaning.specs.Names.{Name, same_name, same_numbers}
use Rattle.c_meaning.specs.Value.{Sight, is_inside}

-- a cell of an array, by its three subscripts
pub record Spot : Type 0 where
  pub array : Name
  pub at : List ℤ

abbrev pub same_spot : Spot → Spot → Bool
same_spot x y = same_name x.array y.array && same_numbers x.at y.at

-- what each cell of a data array holds, a number below 2^64
abbrev pub Cells : Type 0
Cells = Spot → ℕ

-- arrays by their names. Extents are three, of which missing ones are 1; where there is no array there are none.
-- Names of arrays differ, so an array's cells are those of `index` or those of `cells`. A cell outside holds 0.
pub record Memory : Type 0 where
  pub extents : Name → List ℤ
  pub index : Name → List ℤ → ℤ
  pub cells : Cells

-- the values of parameters and loop variables
abbrev pub Env : Type 0
Env = Name → ℤ

abbrev pub is_in_array : Spot → Memory → Bool
is_in_array x m = is_inside x.at (m.extents x.array)

-- what an index expression sees of a memory
abbrev pub sight_of : Env → Memory → Sight
sight_of c m = record { value = c; extents = m.extents; index = m.index }

-- a loop variable has a value in the loop
abbrev pub bound : Name → ℤ → Env → Env
bound x v c y = if same_name x y then v else c y
