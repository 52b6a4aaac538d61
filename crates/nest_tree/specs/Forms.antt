-- Values of affine forms, rows that a point meets, and forms in which variables are replaced by forms.
use Rattle.std.specs.Prelude.{◌≡◌, ℕ, zero, suc, List, [], ◌∷◌, map, ℤ, pos, negsuc, ◌+ℤ◌, ◌*ℤ◌}
use Rattle.std.specs.List.{AllByRecursion}
use Rattle.int_rows.specs.declared.row.Aff.{Aff}
use Rattle.int_rows.specs.declared.row.Row.{Row}
use Rattle.int_rows.specs.Rows.{dot, Holds}

-- the value of a form at a point
abbrev pub value : List ℤ → Aff → ℤ
value p f = dot f.coefs p +ℤ f.constant

-- the point meets the row
abbrev pub MeetsRow : List ℤ → Row → Type 0
MeetsRow p r = Holds r.equal (value p r.form)

-- the point meets all rows
abbrev pub Meets : List ℤ → List Row → Type 0
Meets p rows = AllByRecursion (MeetsRow p) rows

-- the coefficient of a variable
abbrev pub coef : ℕ → List ℤ → ℤ
coef x [] = pos 0
coef zero (c ∷ cs) = c
coef (suc x) (c ∷ cs) = coef x cs

-- the form names the variable
abbrev pub Names : Aff → ℕ → Type 0
Names f x = coef x f.coefs ≡ pos 0 → ⊥

-- the sum of two lists of coefficients, the shorter one filled up with zeros
abbrev pub added : List ℤ → List ℤ → List ℤ
added [] ds = ds
added (c ∷ cs) [] = c ∷ cs
added (c ∷ cs) (d ∷ ds) = (c +ℤ d) ∷ added cs ds

abbrev pub sum : Aff → Aff → Aff
sum f g = record { coefs = added f.coefs g.coefs; constant = f.constant +ℤ g.constant }

abbrev pub times : ℤ → Aff → Aff
times c f = record { coefs = map (λ d. c *ℤ d) f.coefs; constant = c *ℤ f.constant }

abbrev pub less : Aff → Aff → Aff
less f g = sum f (times (negsuc 0) g)

abbrev pub number : ℤ → Aff
number c = record { coefs = []; constant = c }

-- the products of coefficients and forms, and a constant
abbrev pub combined : List ℤ → List Aff → ℤ → Aff
combined [] fs n = number n
combined (c ∷ cs) [] n = number n
combined (c ∷ cs) (f ∷ fs) n = sum (times c f) (combined cs fs n)

-- each variable replaced by its form
abbrev pub replaced : List Aff → Aff → Aff
replaced fs f = combined f.coefs fs f.constant

abbrev pub replaced_row : List Aff → Row → Row
replaced_row fs r = record { form = replaced fs r.form; equal = r.equal }

-- k zeros in front
abbrev pub zeros : ℕ → List ℤ → List ℤ
zeros zero cs = cs
zeros (suc k) cs = pos 0 ∷ zeros k cs

-- the form that is one variable
abbrev pub variable : ℕ → Aff
variable k = record { coefs = zeros k (pos 1 ∷ []); constant = pos 0 }

-- n variables, from the k-th on
abbrev pub variables : ℕ → ℕ → List Aff
variables k zero = []
variables k (suc n) = variable k ∷ variables (suc k) n
