-- A row that an elimination passes over stays, or a tighter one with its coefficients stands for it.
use Rattle.std.specs.Prelude.{◌≡◌, ℕ, List, pos, ◌≤ℤ◌, false, Ok}
use Rattle.int_rows.specs.declared.row.Row.{Row}
use Rattle.int_rows.specs.Rows.{coef_at}
use Rattle.int_rows.specs.Elimination.{elimination}
use Rattle.nest_tree.specs.Lists.{IsIn}

-- an inequality with the same coefficients and no greater constant
pub record IsTighter (r s : Row) : Type 0 where
  pub kind : s.equal ≡ false
  pub coefs : (s.form).coefs ≡ (r.form).coefs
  pub constant : (s.form).constant ≤ℤ (r.form).constant

-- an inequality without the eliminated variable is left, or a tighter one with its coefficients is
abbrev pub PassedRowsAreKept : Type 0
PassedRowsAreKept =
    (x : ℕ) (rows left : List Row) (r : Row) → elimination x rows ≡ Ok left → IsIn r rows → r.equal ≡ false → coef_at x r ≡ pos 0
    → (s : Row) × IsIn s left × IsTighter r s
