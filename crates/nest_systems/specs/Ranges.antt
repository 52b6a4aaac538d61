-- The ranges of what reads of index arrays give, and of their arguments, by the array.
use Rattle.std.specs.Prelude.{ℕ, Bool, cond, bytes_eq, nat_eq, List, [], ◌∷◌, map, length, replicate, slice_get, ℤ, pos, negsuc, ◌+ℤ◌, ◌-ℤ◌, neg_ℤ, Option, Some, None}
use Rattle.std.specs.Ordering.{int_eq}
use Rattle.std.specs.Int.{int_min, int_max}
use Rattle.c_tree.specs.declared.program.Matrix.{Matrix}
use Rattle.c_tree.specs.declared.program.Program.{Program}
use Rattle.int_rows.specs.declared.row.Aff.{Aff}
use Rattle.nest_tree.specs.declared.made.Made.{Made}
use Rattle.nest_tree.specs.declared.made.MadeWhat.{MadeWhat}
use Rattle.nest_tree.specs.declared.made.MadeWhat.TheVariants.{Pointer, Kept, Count, Mark, Width, Columns, Block, Diag, Padded, Copy}
use Rattle.nest_systems.specs.declared.range.Span.{Span}
use Rattle.nest_systems.specs.Sums.{stopped_sum}

-- a name is a list of bytes
abbrev pub Names : Type 0
Names = List (List ℕ)

abbrev pub times_if : Bool → ℤ → ℤ
times_if b z = cond b z (pos 0)

-- the coefficient of a parameter in x times the one named a and y times the one named b
unfoldable pub coef_of : List ℕ → ℤ → List ℕ → ℤ → List ℕ → ℤ
coef_of a x b y p = stopped_sum (times_if (bytes_eq p a) x) (times_if (bytes_eq p b) y)

-- over the parameters: multiples of two named ones, and a constant
unfoldable pub of_two : Names → List ℕ → ℤ → List ℕ → ℤ → ℤ → Aff
of_two params a x b y z = record { coefs = map (coef_of a x b y) params; constant = z }

-- a named parameter and a constant
unfoldable pub of_one : Names → List ℕ → ℤ → Aff
of_one params a z = of_two params a (pos 1) a (pos 0) z

-- a constant
unfoldable pub of_none : Names → ℤ → Aff
of_none params z = record { coefs = replicate (length params) (pos 0); constant = z }

-- from 0 to a form
unfoldable pub from_zero : Names → Aff → Option (List ℕ) → Span
from_zero params high count = record { low_times = pos 1; low = of_none params (pos 0); high_times = pos 1; high = high; count = count }

-- from 0 to a named parameter and a constant
abbrev pub to_one : Names → List ℕ → ℤ → Span
to_one params a z = from_zero params (of_one params a z) None

-- from 0 to a constant, or to count[0] and a constant
abbrev pub to_none : Names → ℤ → Option (List ℕ) → Span
to_none params z count = from_zero params (of_none params z) count

-- the kept values v of floord(column + c*row + s0, divisor), with n rows and m columns:
-- divisor*v + divisor-1 >= s0 + min(0,c)*(n-1) and divisor*v <= m-1 + s0 + max(0,c)*(n-1)
unfoldable pub kept_span : Names → Matrix → ℤ → ℤ → ℤ → Span
kept_span params m c s0 divisor = record {
  low_times = divisor;
  low = of_two params m.rows (neg_ℤ (int_min c (pos 0))) m.cols (pos 0) (divisor -ℤ pos 1 -ℤ s0 +ℤ int_min c (pos 0));
  high_times = divisor;
  high = of_two params m.cols (pos 1) m.rows (int_max c (pos 0)) (s0 -ℤ pos 1 -ℤ int_max c (pos 0));
  count = None;
}

-- the values of a made array
unfoldable pub made_value_span : Names → Matrix → MadeWhat → Option Span
made_value_span params m (Pointer rows count) = Some (to_none params (pos 0) (Some count))
made_value_span params m (Kept c s0 divisor count) = Some (kept_span params m c s0 divisor)
made_value_span params m Count = Some (to_one params m.count (pos 0))
made_value_span params m Width = Some (to_one params m.count (pos 0))
made_value_span params m (Columns width) = Some (to_one params m.cols (negsuc 0))
made_value_span params m Mark = None
made_value_span params m (Block count rows cols) = None
made_value_span params m (Diag count) = None
made_value_span params m (Padded width) = None
made_value_span params m (Copy extents) = None

-- the first argument of a pointer to groups of so many rows
unfoldable pub pointer_span : Names → Matrix → ℤ → Span
pointer_span params m rows = cond (int_eq rows (pos 0)) (to_none params (pos 1) None)
    (record { low_times = pos 1; low = of_none params (pos 0); high_times = rows; high = of_one params m.rows (rows -ℤ pos 1); count = None })

-- the first argument of a made array
unfoldable pub made_first_span : Names → Matrix → MadeWhat → Option Span
made_first_span params m (Pointer rows count) = Some (pointer_span params m rows)
made_first_span params m (Kept c s0 divisor count) = Some (to_none params (negsuc 0) (Some count))
made_first_span params m (Columns width) = Some (to_one params m.rows (negsuc 0))
made_first_span params m Count = None
made_first_span params m Width = None
made_first_span params m Mark = None
made_first_span params m (Block count rows cols) = None
made_first_span params m (Diag count) = None
made_first_span params m (Padded width) = None
made_first_span params m (Copy extents) = None

-- the second argument of a made array
unfoldable pub made_second_span : Names → MadeWhat → Option Span
made_second_span params (Columns width) = Some (to_none params (negsuc 0) (Some width))
made_second_span params (Pointer rows count) = None
made_second_span params (Kept c s0 divisor count) = None
made_second_span params Count = None
made_second_span params Width = None
made_second_span params Mark = None
made_second_span params (Block count rows cols) = None
made_second_span params (Diag count) = None
made_second_span params (Padded width) = None
made_second_span params (Copy extents) = None

-- an argument of a made array, by its place
unfoldable pub made_argument_span : Names → Matrix → MadeWhat → ℕ → Option Span
made_argument_span params m what place = cond (nat_eq place 0) (made_first_span params m what) (cond (nat_eq place 1) (made_second_span params what) None)

-- the values of a signature's index array
abbrev pub matrix_value_span : Names → List Matrix → List ℕ → Option Span
matrix_value_span params [] array = None
matrix_value_span params (m ∷ ms) array =
    cond (bytes_eq array m.index) (Some (to_one params m.count (pos 0)))
    (cond (bytes_eq array m.col) (Some (to_one params m.cols (negsuc 0))) (matrix_value_span params ms array))

-- the argument of a signature's index array; it has one
abbrev pub matrix_argument_span : Names → List Matrix → List ℕ → Option Span
matrix_argument_span params [] array = None
matrix_argument_span params (m ∷ ms) array =
    cond (bytes_eq array m.index) (Some (to_one params m.rows (pos 0)))
    (cond (bytes_eq array m.col) (Some (to_one params m.count (negsuc 0))) (matrix_argument_span params ms array))

-- something said of a matrix, where there is one
abbrev pub said_of : Option Matrix → (Matrix → Option Span) → Option Span
said_of (Some m) f = f m
said_of None f = None

-- something said of the array with that name, by its matrix and what it holds
abbrev pub said_of_made : List Matrix → List Made → List ℕ → (Matrix → MadeWhat → Option Span) → Option Span
said_of_made ms [] array f = None
said_of_made ms (a ∷ all) array f = cond (bytes_eq array a.name) (said_of (slice_get ms a.matrix) (λ m. f m a.what)) (said_of_made ms all array f)

-- the first that there is
abbrev pub first_span : Option Span → Option Span → Option Span
first_span (Some s) other = Some s
first_span None other = other

-- the values of an index array
unfoldable pub value_span : Program → List Made → List ℕ → Option Span
value_span head made array = first_span (matrix_value_span head.params head.matrices array) (said_of_made head.matrices made array (made_value_span head.params))

-- an argument of a read of an index array, by its place
unfoldable pub argument_span : Program → List Made → List ℕ → ℕ → Option Span
argument_span head made array place =
    first_span (cond (nat_eq place 0) (matrix_argument_span head.params head.matrices array) None)
    (said_of_made head.matrices made array (λ m what. made_argument_span head.params m what place))
