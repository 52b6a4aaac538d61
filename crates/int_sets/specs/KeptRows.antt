-- The rows that are kept of those that an elimination makes.
use Rattle.std.specs.Prelude.{Bool}
use Rattle.int_rows.specs.Systems.{Rows}

-- what is kept, and whether this was too much at some time
pub record KeptRows : Type 0 where
  pub kept : Rows
  pub many : Bool
