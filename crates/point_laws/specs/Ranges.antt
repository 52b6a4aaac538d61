-- Inputs whose arrays keep the ranges that systems say of them.
use Rattle.std.specs.Prelude.{◌≡◌, ℕ, ◌<◌, List, [], ◌∷◌, length, ℤ, pos, ◌+ℤ◌, ◌-ℤ◌, ◌*ℤ◌, ◌≤ℤ◌, Option, Some, None}
use Rattle.c_tree.specs.declared.index.Index.{Index}
use Rattle.c_tree.specs.declared.program.Array.{Array}
use Rattle.c_tree.specs.declared.program.Program.{Program}
use Rattle.int_rows.specs.declared.row.Aff.{Aff}
use Rattle.nest_tree.specs.declared.made.Made.{Made}
use Rattle.nest_tree.specs.Lists.{IsIn}
use Rattle.nest_tree.specs.Forms.{value, coef}
use Rattle.nest_tree.specs.Terms.{Input, or_zero}
use Rattle.nest_systems.specs.declared.range.Span.{Span}
use Rattle.nest_systems.specs.Ranges.{value_span}
use Rattle.nest_systems.specs.Extents.{extent_form}

-- the number that the cell count[0] has, where a range speaks of it
abbrev pub count_value : Input → Option (List ℕ) → ℤ
count_value i (Some name) = or_zero (i.cells name (pos 0 ∷ []))
count_value i None = pos 0

-- a number lies in a range
pub record InSpan (i : Input) (s : Span) (x : ℤ) : Type 0 where
  pub low : pos 0 ≤ℤ ((s.low_times *ℤ x) +ℤ value i.params s.low)
  pub high : pos 0 ≤ℤ ((value i.params s.high +ℤ count_value i s.count) -ℤ (s.high_times *ℤ x))

-- parameters and extents are at least 0, and each cell of an index array lies in the range of its array
pub record IsRanged (head : Program) (made : List Made) (i : Input) : Type 0 where
  pub count : length i.params ≡ length head.params
  pub params : (v : ℕ) → v < length i.params → pos 0 ≤ℤ coef v i.params
  pub extents : (a : Array) (e : Index) (f : Aff) → IsIn a head.arrays → IsIn e a.extents → extent_form head.params e ≡ Some f → pos 0 ≤ℤ value i.params f
  pub values : (array : List ℕ) (at : List ℤ) (x : ℤ) (s : Span) → value_span head made array ≡ Some s → i.cells array at ≡ Some x → InSpan i s x

-- no value range speaks of a cell count[0], as before any command has made an array
abbrev pub HasNoCounts : Program → List Made → Type 0
HasNoCounts head made = (array : List ℕ) (s : Span) → value_span head made array ≡ Some s → s.count ≡ None
