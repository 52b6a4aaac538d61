-- Forms of statements over what a scan speaks of.
use Rattle.std.specs.Prelude.{◌≡◌, ℕ, take, drop}
use Rattle.int_rows.specs.declared.row.Aff.{Aff}
use Rattle.scan_forms.specs.declared.affine.Affine.{Affine}

-- with so many parameters and levels, outside of the reads: the numbers of the parameters, then those of the levels, and the constant
pub record IsOutside (count depth : ℕ) (f : Aff) (placed : Affine) : Type 0 where
  pub params : placed.params ≡ take count f.coefs
  pub levels : placed.levels ≡ take depth (drop count f.coefs)
  pub constant : placed.constant ≡ f.constant
