-- A system's point at which a statement has its own.
use Rattle.std.specs.Prelude.{◌≡◌, ℕ, ◌+◌, ◌<◌, ◌≤◌, List, map, length, ℤ, Some, slice_get}
use Rattle.std.specs.List.{AllByRecursion}
use Rattle.int_rows.specs.declared.row.Aff.{Aff}
use Rattle.int_rows.specs.declared.row.Row.{Row}
use Rattle.nest_tree.specs.Forms.{value, coef, Meets}
use Rattle.point_laws.specs.Seats.{Seats, placed, placed_row}
use Rattle.point_laws.specs.Seated.{AreApart, IsSeatedSmall}
use Rattle.point_laws.specs.Alike.{IsMet}

-- each parameter, each level, and each term that has a seat has its value there
pub record IsSeatedAt (s : Seats) (p q : List ℤ) : Type 0 where
  pub params : (v : ℕ) → v < s.params → coef v q ≡ coef v p
  pub levels : (l : ℕ) → l < s.levels → coef (s.first_level + l) q ≡ coef (s.params + l) p
  pub terms : (t v : ℕ) → slice_get s.terms t ≡ Some (Some v) → coef v q ≡ coef (s.params + s.levels + t) p

-- a form of the statement each term of which has a seat, and whose numbers in the seats are within the limit
pub record FitsSeats (s : Seats) (f : Aff) : Type 0 where
  pub narrow : length f.coefs ≤ s.params + s.levels + length s.terms
  pub met : IsMet (s.params + s.levels) s.terms f
  pub small : IsSeatedSmall s f

-- at such a point the placed form has the value that the statement's form has
abbrev pub PlacedFormHasValue : Type 0
PlacedFormHasValue = (s : Seats) (f : Aff) (p q : List ℤ) → AreApart s → FitsSeats s f → IsSeatedAt s p q → value q (placed s f) ≡ value p f

abbrev pub RowFitsSeats : Seats → Row → Type 0
RowFitsSeats s r = FitsSeats s r.form

-- and the placed rows are met where the statement's are
abbrev pub PlacedRowsAreMet : Type 0
PlacedRowsAreMet = (s : Seats) (rows : List Row) (p q : List ℤ) → AreApart s → AllByRecursion (RowFitsSeats s) rows → IsSeatedAt s p q → Meets p rows → Meets q (map (placed_row s) rows)
