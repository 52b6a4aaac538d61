-- The rows of the value ranges of terms.
use Rattle.std.specs.Prelude.{◌≡◌, ℕ, ◌+◌, ◌<◌, ◌≤◌, List, length, ℤ, Some, slice_get}
use Rattle.std.specs.List.{AllByRecursion}
use Rattle.c_tree.specs.declared.program.Program.{Program}
use Rattle.int_rows.specs.declared.row.Row.{Row}
use Rattle.int_rows.specs.Systems.{IsRowOf}
use Rattle.nest_tree.specs.declared.kernel.Term.{Term}
use Rattle.nest_tree.specs.declared.made.Made.{Made}
use Rattle.nest_tree.specs.Lists.{IsIn}
use Rattle.nest_tree.specs.Forms.{coef, Meets}
use Rattle.nest_tree.specs.Terms.{Input}
use Rattle.nest_systems.specs.Parts.{value_rows}
use Rattle.point_laws.specs.Ranges.{IsRanged, HasNoCounts}

-- the numbers of the rows are within the limit
abbrev pub AreSmall : ℕ → List Row → Type 0
AreSmall vars rows = AllByRecursion (IsRowOf vars) rows

-- the point begins with the parameters
abbrev pub BeginsWith : List ℤ → List ℤ → Type 0
BeginsWith params p = (v : ℕ) → v < length params → coef v p ≡ coef v params

-- the term with that number has a value that its array has
pub record HasCell (i : Input) (first : ℕ) (terms : List Term) (p : List ℤ) (t : ℕ) : Type 0 where
  pub term : Term
  pub is : slice_get terms t ≡ Some term
  pub at : List ℤ
  pub cell : i.cells term.array at ≡ Some (coef (first + t) p)

abbrev pub ValueRowsAreMet : Type 0
ValueRowsAreMet =
    (head : Program) (made : List Made) (i : Input) (first : ℕ) (terms : List Term) (order : List ℕ) (p : List ℤ) → IsRanged head made i → HasNoCounts head made
    → length head.params ≤ first → BeginsWith i.params p → ((t : ℕ) → IsIn t order → HasCell i first terms p t)
    → AreSmall (first + length terms) (value_rows head made first terms order) → Meets p (value_rows head made first terms order)
