-- Affine forms, rows, and the points that meet them.
use Rattle.std.specs.Prelude.{◌≡◌, ℕ, Bool, true, false, List, [], ◌∷◌, ◌++◌, ℤ, pos, ◌+ℤ◌, ◌*ℤ◌, ◌≤ℤ◌, slice_index_or}
use Rattle.std.specs.List.{AllByRecursion}
use Rattle.int_rows.specs.declared.row.Row.{Row}
use Rattle.int_rows.specs.declared.row.Aff.{Aff}

-- the sum of the products of coefficients and coordinates
abbrev pub dot : List ℤ → List ℤ → ℤ
dot [] p = pos 0
dot (c ∷ cs) [] = pos 0
dot (c ∷ cs) (x ∷ p) = c *ℤ x +ℤ dot cs p

-- the value of a form at a point, its constant taken d times
abbrev pub value : ℤ → List ℤ → Aff → ℤ
value d p f = dot f.coefs p +ℤ d *ℤ f.constant

-- the relation that a row asks of its form's value
abbrev pub Holds : Bool → ℤ → Type 0
Holds true v = v ≡ pos 0
Holds false v = pos 0 ≤ℤ v

-- the point p meets the row when its constant is multiplied by d
abbrev pub MeetsRow : ℤ → List ℤ → Row → Type 0
MeetsRow d p r = Holds r.equal (value d p r.form)

-- the point p meets all rows when each constant is multiplied by d; with d = 1 it is a point of the system
abbrev pub Meets : ℤ → List ℤ → List Row → Type 0
Meets d p rows = AllByRecursion (MeetsRow d p) rows

-- the coefficient of a variable, by its position
abbrev pub coef_at : ℕ → Row → ℤ
coef_at x r = slice_index_or r.form.coefs x (pos 0)

-- the numbers of a form: its coefficients, and then its constant
abbrev pub numbers : Aff → List ℤ
numbers f = f.coefs ++ f.constant ∷ []
