-- A system of rows over its variables, and what is made of it: a row more, a form in place of a variable, one variable less, and what its rows decide.
use Rattle.std.specs.Prelude.{◌≡◌, ℕ, ◌≤◌, Bool, false, cond, not, nat_lt, List, [], ◌∷◌, ◌++◌, map, length, pos, negsuc, ◌-ℤ◌, neg_ℤ, slice_set, IsTrue, Option, Some, None, Result, Ok, Err}
use Rattle.std.specs.List.{AllByRecursion, list_all, position_from}
use Rattle.int_rows.specs.Rows.{coef_at, numbers}
use Rattle.int_rows.specs.Elimination.{is_small, combination, first_past, elimination}
use Rattle.int_rows.specs.Exclusion.{when_left, exclusion}
use Rattle.int_rows.specs.declared.row.Aff.{Aff}
use Rattle.int_rows.specs.declared.row.Row.{Row}
use Rattle.int_rows.specs.declared.row.Excess.{Excess}
use Rattle.int_rows.specs.declared.row.Excess.TheVariants.{Large, Many}

-- how many variables a system has, and its rows in order
pub record Rows : Type 0 where
  pub vars : ℕ
  pub rows : List Row

-- a row over so many variables, with each number within the limit
pub record IsRowOf (vars : ℕ) (r : Row) : Type 0 where
  pub width : length r.form.coefs ≡ vars
  pub small : IsTrue (list_all is_small (numbers r.form))

-- what is true of each system
pub record IsSystem (s : Rows) : Type 0 where
  pub each : AllByRecursion (IsRowOf s.vars) s.rows
  pub count : length s.rows ≤ 4096

-- the system with other rows
abbrev pub with_rows : Rows → List Row → Rows
with_rows s rows = record { vars = s.vars; rows = rows }

-- a value, unless a number at that position passes the limit
abbrev pub unless_past : {A : Type 0} → Option ℕ → Result A Excess → Result A Excess
unless_past (Some var) r = Err (Large var)
unless_past None r = r

-- a row behind the others: `Large` at its first number past the limit, `Many` where it would be row 4,097
unfoldable pub pushed : Rows → Row → Result Rows Excess
pushed s r =
    unless_past (position_from (λ z. not (is_small z)) 0 (numbers r.form))
    (cond (nat_lt (length s.rows) 4096) (Ok (with_rows s (s.rows ++ r ∷ []))) (Err (Many s.vars)))

-- a form without the summand of a variable
abbrev pub without : ℕ → Aff → Aff
without x f = record { coefs = slice_set f.coefs x (pos 0); constant = f.constant }

-- a row with a form in place of a variable
abbrev pub replaced : ℕ → Aff → Row → Row
replaced x by r = record { equal = r.equal; form = combination (pos 1) (without x r.form) (coef_at x r) by }

-- the first number of such a row that passes the limit
abbrev pub replaced_past : ℕ → Aff → Row → Option ℕ
replaced_past x by r = first_past (pos 1) (without x r.form) (coef_at x r) by

-- the first that there is
abbrev pub first_of : List (Option ℕ) → Option ℕ
first_of [] = None
first_of (Some i ∷ more) = Some i
first_of (None ∷ more) = first_of more

-- a form in place of a variable in each row, or the first number that passes the limit
unfoldable pub substituted : ℕ → Aff → Rows → Result Rows Excess
substituted x by s = unless_past (first_of (map (replaced_past x by) s.rows)) (Ok (with_rows s (map (replaced x by) s.rows)))

abbrev pub with_left : Rows → Result (List Row) Excess → Result Rows Excess
with_left s (Ok rows) = Ok (with_rows s rows)
with_left s (Err e) = Err e

-- one variable less
unfoldable pub eliminated : ℕ → Rows → Result Rows Excess
eliminated x s = with_left s (elimination x s.rows)

-- whether the system is excluded
unfoldable pub excluded : Rows → Result Bool Excess
excluded s = exclusion s.vars s.rows

-- the inequality that holds where another doesn't: -1 - form >= 0
abbrev pub negation : Aff → Row
negation f = record { equal = false; form = record { coefs = map neg_ℤ f.coefs; constant = negsuc 0 -ℤ f.constant } }

-- whether an inequality follows: the system with its negation behind the rows is excluded
unfoldable pub implied : Rows → Aff → Result Bool Excess
implied s f = when_left (pushed s (negation f)) excluded
