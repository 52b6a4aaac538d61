-- What a grid is to its callers.
use Rattle.std.specs.Prelude.{ℕ, ◌+◌, ◌*◌, ◌<◌, List, slice_index_or}

-- how many rows there are, the extents of a row, and all cells in order
pub record Rows : Type 0 where
  pub first : ℕ
  pub deep : ℕ
  pub wide : ℕ
  pub cells : List ℕ

-- the k-th of a list of subscripts or extents
abbrev pub sub : List ℕ → ℕ → ℕ
sub at k = slice_index_or at k 0

-- each subscript is below its extent
pub record IsInside (g : Rows) (at : List ℕ) : Type 0 where
  pub row : sub at 0 < g.first
  pub line : sub at 1 < g.deep
  pub cell : sub at 2 < g.wide

-- where the cell lies, the last subscript running fastest
abbrev pub place : Rows → List ℕ → ℕ
place g at = sub at 0 * (g.deep * g.wide) + (sub at 1 * g.wide + sub at 2)
