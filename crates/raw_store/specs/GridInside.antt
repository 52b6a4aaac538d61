-- A grid by its fields.
use Rattle.std.specs.Prelude.{◌≡◌, ◌*◌, ◌^◌, ◌≤◌, length}
use Rattle.raw_store.specs.declared.grid.Grid.TheInside.{Inside}
use Rattle.raw_store.specs.Rows.{Rows}

abbrev pub rows_of : Inside → Rows
rows_of g = record { first = g.first; deep = g.deep; wide = g.wide; cells = g.cells }

-- the cells are those of the rows, and neither are too many
pub record IsGrid (g : Inside) : Type 0 where
  pub product : length g.cells ≡ g.first * (g.deep * g.wide)
  pub rows : g.first ≤ 2 ^ 62
  pub few : length g.cells ≤ 2 ^ 62
