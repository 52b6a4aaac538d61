-- What stands around, as rows, and what is judged inside.
use Rattle.std.specs.Prelude.{◌≡◌, ◌≤◌, ℕ, ◌+◌, ℤ, pos, ◌≤ℤ◌, ◌<ℤ◌, true, false, List, [], ◌++◌, length, None, Some, Ok}
use Rattle.std.specs.List.{AllByRecursion}
use Rattle.int_rows.specs.declared.row.Aff.{Aff}
use Rattle.int_rows.specs.Rows as rows
use Rattle.int_rows.specs.Systems.{Rows, pushed}
use Rattle.c_meaning.specs.Names.{Name}
use Rattle.c_meaning.specs.Value.{Sight, compares}
use Rattle.nest_tree.specs.declared.kernel.KernelRow.{KernelRow}
use Rattle.nest_tree.specs.Forms.{value, MeetsRow}
use Rattle.nest_laws.specs.Weights.{HasSize}
use Rattle.point_laws.specs.Seats.{placed}
use Rattle.acceptance.specs.Affine.{lowers, uppers}
use Rattle.acceptance.specs.Around.{loop_names}
use Rattle.acceptance.specs.Expressions.{Expression, plain, index_of}
use Rattle.acceptance.specs.Forms.{Vars, form}
use Rattle.acceptance.specs.Inside.{vars_with, known, extent_at, inside}
use Rattle.acceptance.specs.Rows.{rows_in, vars_count}
use Rattle.acceptance.specs.Sizes.{Size, weight}
use Rattle.acceptance.specs.Systems.{seats_of, own_system}
use Rattle.acceptance.specs.Visits.{Passed, looped, tested}
use Rattle.acceptance.specs.Inside as judged
use Rattle.acceptance_laws.specs.Formed.{sizes_of, point}

-- an operand has its form's value, and its judged size
abbrev pub IsOperand : List Size → Sight → Vars → Expression → Type 0
IsOperand sizes s v o = HasSize (sizes_of sizes) s (index_of o) (value (point s v) (form o v)) (weight sizes o)

abbrev pub IsAtMost : Sight → Vars → ℤ → Expression → Type 0
IsAtMost s v x o = value (point s v) (form o v) ≤ℤ x

abbrev pub IsAbove : Sight → Vars → ℤ → Expression → Type 0
IsAbove s v x o = x <ℤ value (point s v) (form o v)

-- a lower bound has a value, and it is at most x exactly where each operand's form is
pub record LowerValue (sizes : List Size) (s : Sight) (v : Vars) (e : Expression) : Type 0 where
  pub bound : ℤ
  pub has : HasSize (sizes_of sizes) s (index_of e) bound (weight sizes e)
  pub each : (x : ℤ) → bound ≤ℤ x → AllByRecursion (IsAtMost s v x) (lowers e)
  pub all : (x : ℤ) → AllByRecursion (IsAtMost s v x) (lowers e) → bound ≤ℤ x

pub record UpperValue (sizes : List Size) (s : Sight) (v : Vars) (e : Expression) : Type 0 where
  pub bound : ℤ
  pub has : HasSize (sizes_of sizes) s (index_of e) bound (weight sizes e)
  pub each : (x : ℤ) → x <ℤ bound → AllByRecursion (IsAbove s v x) (uppers e)
  pub all : (x : ℤ) → AllByRecursion (IsAbove s v x) (uppers e) → x <ℤ bound

abbrev pub BoundsHaveValues : Type 0
BoundsHaveValues = (sizes : List Size) (s : Sight) (v : Vars) (e : Expression) → (AllByRecursion (IsOperand sizes s v) (lowers e) → LowerValue sizes s v e) × (AllByRecursion (IsOperand sizes s v) (uppers e) → UpperValue sizes s v e)

-- the loop's variable is within all operands of its bounds, or the test's forms compare so
abbrev pub IsWithin : Sight → Vars → Passed → Type 0
IsWithin s v (looped x low high) = AllByRecursion (IsAtMost s v (s.value x)) (lowers (plain low)) × AllByRecursion (IsAbove s v (s.value x)) (uppers (plain high))
IsWithin s v (tested t) = compares t.cmp (value (point s v) (form (plain t.left) v)) (value (point s v) (form (plain t.right) v)) ≡ true

abbrev pub IsMet : Sight → Vars → KernelRow → Type 0
IsMet s v r = MeetsRow (point s v) r.row

-- the rows of what stands around hold exactly where it does
abbrev pub RowsSayWithin : Type 0
RowsSayWithin =
    (params levels : ℕ) (s : Sight) (v : Vars) (front inner : List Name) (ps : List Passed) → length front ≡ params + levels → v.names ≡ front ++ (loop_names ps ++ inner)
    → (AllByRecursion (IsMet s v) (rows_in params v levels ps) → AllByRecursion (IsWithin s v) ps) × (AllByRecursion (IsWithin s v) ps → AllByRecursion (IsMet s v) (rows_in params v levels ps))

-- where the system of an access stands and a form over its variables is not negative at q, the system with that form's row has a point
abbrev pub SystemIsMet : judged.Sight → Vars → Aff → List ℤ → Type 0
SystemIsMet s v f q =
    (system more : Rows) (g : Aff) → own_system s.head [] (known s v f) ≡ Ok system → pushed system (record { equal = false; form = placed (seats_of s.head (known s v f)) g }) ≡ Ok more → length g.coefs ≤ vars_count v → pos 0 ≤ℤ value q g
    → (z : List ℤ) × rows.Meets (pos 1) z more.rows

-- what is judged inside is inside, at each q that gives its system a point; the names of its sight are at least as many as the parameters
abbrev pub JudgedIsInside : Type 0
JudgedIsInside =
    (s : judged.Sight) (es : List Expression) (array : Name) (place : ℕ) (e : Expression) (extent : Aff) (q : List ℤ) → length s.head.params ≤ length s.names → extent_at s.head array place ≡ Some extent → inside s es array place e ≡ None
    → SystemIsMet s (vars_with s es) (form e (vars_with s es)) q → (pos 0 ≤ℤ value q (form e (vars_with s es))) × (value q (form e (vars_with s es)) <ℤ value q extent)
