-- A shape by its fields.
use Rattle.std.specs.Prelude.{◌≤◌, ◌^◌, ℤ, unsigned_abs, List, [], ◌∷◌}
use Rattle.csr_data.specs.declared.shape.Shape.TheInside.{Inside}

abbrev pub three_extents : Inside → List ℤ
three_extents s = s.first ∷ s.deep ∷ s.wide ∷ []

-- no extent is past 2^41 in size
pub record IsSmall (s : Inside) : Type 0 where
  pub first : unsigned_abs s.first ≤ 2 ^ 41
  pub deep : unsigned_abs s.deep ≤ 2 ^ 41
  pub wide : unsigned_abs s.wide ≤ 2 ^ 41
