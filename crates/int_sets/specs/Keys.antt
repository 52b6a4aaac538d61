-- Keys of rows.
use Rattle.std.specs.Prelude.{◌≡◌}
use Rattle.int_rows.specs.declared.row.Row.{Row}
use Rattle.int_sets.specs.declared.key.RowKey.{RowKey}
use Rattle.int_sets.specs.Views.{equals_of}

-- the key of a row has the constant of an equality, and the coefficients
pub record IsKeyOf (k : RowKey) (r : Row) : Type 0 where
  pub equals : k.equals ≡ equals_of r
  pub coefs : k.coefs.items ≡ r.form.coefs
