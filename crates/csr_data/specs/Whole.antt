-- Arrays whose cells are all there.
use Rattle.std.specs.Prelude.{◌≡◌, ℕ, ◌*◌, ◌<◌, ◌^◌, List, length, slice_index_or}
use Rattle.raw_store.specs.Rows.{Rows}

-- each of the numbers is below 2^64
abbrev pub AreNumbers : List ℕ → Type 0
AreNumbers cells = (k : ℕ) → k < length cells → slice_index_or cells k 0 < 2 ^ 64

-- there are as many cells as the extents tell, each below 2^64
pub record IsWhole (g : Rows) : Type 0 where
  pub count : length g.cells ≡ g.first * (g.deep * g.wide)
  pub numbers : AreNumbers g.cells
