-- The rows that borrowed numbers show.
use Rattle.std.specs.Prelude.{ℤ, cond, Option, Some, None}
use Rattle.std.specs.Int.{int_min}
use Rattle.int_rows.specs.declared.row.Aff.{Aff}
use Rattle.int_rows.specs.declared.row.Row.{Row}
use Rattle.int_sets.specs.declared.views.AffRef.{AffRef}
use Rattle.int_sets.specs.declared.views.RowRef.{RowRef}

abbrev pub form_of : AffRef → Aff
form_of f = record { coefs = f.coefs.now; constant = f.constant }

abbrev pub row_of : RowRef → Row
row_of r = record { equal = r.equal; form = form_of r.form }

-- a row whose constant is the lesser of its own and another
abbrev pub lowered : Row → ℤ → Row
lowered r z = record { equal = r.equal; form = record { coefs = r.form.coefs; constant = int_min r.form.constant z } }

-- the constant of an equality
abbrev pub equals_of : Row → Option ℤ
equals_of r = cond r.equal (Some r.form.constant) None
