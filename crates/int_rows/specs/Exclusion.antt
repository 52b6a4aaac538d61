-- Exclusion: the variables are eliminated from the last to the first, until a row shows that no integer point is left.
use Rattle.std.specs.Prelude.{ℕ, zero, suc, ◌%◌, Bool, true, cond, not, ◌&&◌, nat_eq, List, pos, int_lt, unsigned_abs, filter, Result, Ok, Err}
use Rattle.std.specs.List.{list_all, list_any}
use Rattle.std.specs.Ordering.{int_eq}
use Rattle.int_rows.specs.Gcd.{gcd_of}
use Rattle.int_rows.specs.Elimination.{elimination}
use Rattle.int_rows.specs.declared.row.Row.{Row}
use Rattle.int_rows.specs.declared.row.Excess.{Excess}

-- whether a row has no variables
abbrev pub is_plain : Row → Bool
is_plain r = list_all (λ c. int_eq c (pos 0)) r.form.coefs

-- the divisor test on an equality, and the sign test on an inequality without variables
unfoldable pub is_impossible : Row → Bool
is_impossible r = cond r.equal (not (nat_eq (unsigned_abs r.form.constant % gcd_of r.form.coefs) 0)) (is_plain r && int_lt r.form.constant (pos 0))

abbrev pub when_left : {A B E : Type 0} → Result A E → (A → Result B E) → Result B E
when_left (Ok a) f = f a
when_left (Err e) f = Err e

-- whether a system, of whose variables the first n are still there, is excluded, or the limit that this passes
unfoldable pub exclusion : ℕ → List Row → Result Bool Excess
exclusion zero rows = Ok (list_any is_impossible rows)
exclusion (suc n) rows = cond (list_any is_impossible rows) (Ok true) (when_left (elimination n (filter (λ r. not (is_plain r)) rows)) (exclusion n))
