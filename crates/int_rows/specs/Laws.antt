-- What elimination and exclusion mean for the points of a system.
use Rattle.std.specs.Prelude.{◌≡◌, ℕ, ◌<◌, true, false, List, length, slice_set, ℤ, pos, ◌≤ℤ◌, ◌↔◌, Ok}
use Rattle.int_rows.specs.Rows.{value, Meets}
use Rattle.int_rows.specs.Elimination.{elimination}
use Rattle.int_rows.specs.Systems.{Rows, IsSystem, substituted, excluded, implied}
use Rattle.int_rows.specs.declared.row.Aff.{Aff}
use Rattle.int_rows.specs.declared.row.Row.{Row}

-- each point that meets the rows meets all rows that the elimination of a variable leaves, whatever the constants are multiplied by
abbrev pub EliminationKeepsPoints : Type 0
EliminationKeepsPoints = (d : ℤ) (p : List ℤ) (x : ℕ) (rows left : List Row) → elimination x rows ≡ Ok left → Meets d p rows → Meets d p left

-- an excluded system has no integer point
abbrev pub ExcludedHasNoPoint : Type 0
ExcludedHasNoPoint = (s : Rows) (p : List ℤ) → excluded s ≡ Ok true → Meets (pos 1) p s.rows → ⊥

-- integers p and d >= 1, so that p meets the system when each constant is multiplied by d
pub record HasScaledPoint (s : Rows) : Type 0 where
  pub factor : ℤ
  pub point : List ℤ
  pub some : pos 1 ≤ℤ factor
  pub width : length point ≡ s.vars
  pub meets : Meets factor point s.rows

-- a system that isn't excluded has such a point
abbrev pub OtherHasScaledPoint : Type 0
OtherHasScaledPoint = (s : Rows) → IsSystem s → excluded s ≡ Ok false → HasScaledPoint s

-- an inequality that is implied holds at each integer point of the system
abbrev pub ImpliedHolds : Type 0
ImpliedHolds = (s : Rows) (f : Aff) (p : List ℤ) → implied s f ≡ Ok true → Meets (pos 1) p s.rows → pos 0 ≤ℤ value (pos 1) p f

-- a point meets the rows with a form in place of a variable exactly where the point with the form's value for that variable meets the rows
abbrev pub SubstitutionMovesPoints : Type 0
SubstitutionMovesPoints = (p : List ℤ) (x : ℕ) (by : Aff) (s new : Rows) → x < length p → substituted x by s ≡ Ok new
    → Meets (pos 1) p new.rows ↔ Meets (pos 1) (slice_set p x (value (pos 1) p by)) s.rows
