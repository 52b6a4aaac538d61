-- What a run of an accepted program sees.
use Rattle.std.specs.Prelude.{ℕ, suc, ◌∷◌, ◌≡◌, ℤ, pos, ◌≤ℤ◌, ◌<ℤ◌, true, List, [], ◌++◌, map, length, Some}
use Rattle.c_tree.specs.declared.index.Cell.{Cell}
use Rattle.c_tree.specs.declared.program.Program.{Program}
use Rattle.int_rows.specs.declared.row.Aff.{Aff}
use Rattle.c_meaning.specs.Names.{Name, line}
use Rattle.c_meaning.specs.Value.{cell_seen}
use Rattle.c_meaning.specs.Listing.{Scene}
use Rattle.nest_tree.specs.Lists.{Pairwise}
use Rattle.nest_tree.specs.Forms.{value}
use Rattle.nest_laws.specs.Acts.{three}
use Rattle.point_laws.specs.Ranges.{IsRanged}
use Rattle.acceptance.specs.Expressions.{plains}
use Rattle.acceptance.specs.Affine.{is_index_array}
use Rattle.acceptance.specs.Inside.{extent_at}
use Rattle.acceptance_laws.specs.Formed.{KeepSizes}
use Rattle.acceptance_laws.specs.Kept.{HasSmallCells}
use Rattle.acceptance_laws.specs.Systems.{seen}

-- the parameters are at most 2^24 in size, and so are the cells of the matrices' arrays; each of these has one extent, a form of the parameters, below which each subscript from 0 on finds its cell; and all arrays keep the ranges that systems say of them
pub record IsSceneOf (p : Program) (c : Scene) : Type 0 where
  pub params : KeepSizes [] c.sight p.params
  pub cells : HasSmallCells p.matrices c.sight
  pub terms : (a : Name) → is_index_array p.matrices a ≡ true
      → (extent : Aff) × (extent_at p a 0 ≡ Some extent) × ((rest : List ℤ) (z : ℤ) → pos 0 ≤ℤ z → z <ℤ value (map c.sight.value p.params ++ rest) extent → (w : ℤ) × (cell_seen c.sight a (line z) ≡ Some w))
  pub ranged : IsRanged p [] (seen p c)

-- a number is at least 0 and below an extent
abbrev pub IsBelow : Program → Scene → Aff → ℤ → Type 0
IsBelow p c extent z = (pos 0 ≤ℤ z) × (rest : List ℤ) × (z <ℤ value (map c.sight.value p.params ++ rest) extent)

-- the extents of an array from a place on
abbrev pub AreExtents : Program → Name → ℕ → List Aff → Type 0
AreExtents p a place [] = Unit
AreExtents p a place (f ∷ fs) = (extent_at p a place ≡ Some f) × AreExtents p a (suc place) fs

-- the array of a cell has as many extents as the cell has subscripts, each a form of the parameters, and holds each cell whose subscripts are below them
pub record HasExtents (p : Program) (c : Scene) (cell : Cell) : Type 0 where
  pub extents : List Aff
  pub count : length extents ≡ length (plains cell.at)
  pub are : AreExtents p cell.array 0 extents
  pub inside : (zs : List ℤ) → Pairwise (IsBelow p c) extents zs → c.inside (record { array = cell.array; at = three zs }) ≡ true
