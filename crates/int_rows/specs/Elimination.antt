-- Elimination of one variable from a list of rows.
use Rattle.std.specs.Prelude.{ℕ, ◌^◌, Bool, true, cond, not, ◌&&◌, nat_le, List, [], ◌∷◌, ◌++◌, map, length, ℤ, pos, ◌+ℤ◌, ◌*ℤ◌, neg_ℤ, int_lt, int_div, unsigned_abs, fold, filter, flat_map, remove, slice_get, Option, Some, None, Result, Ok, Err}
use Rattle.std.specs.List.{list_all, position_from, position_or_len}
use Rattle.std.specs.Int.{int_min}
use Rattle.std.specs.Ordering.{int_eq}
use lib.Pointwise.{pointwise}
use Rattle.int_rows.specs.Gcd.{gcd, gcd_of}
use Rattle.int_rows.specs.Rows.{coef_at, numbers}
use Rattle.int_rows.specs.declared.row.Aff.{Aff}
use Rattle.int_rows.specs.declared.row.Row.{Row}
use Rattle.int_rows.specs.declared.row.Excess.{Excess}
use Rattle.int_rows.specs.declared.row.Excess.TheVariants.{Large, Many}

-- whether a number of set work is within the limit
abbrev pub is_small : ℤ → Bool
is_small z = nat_le (unsigned_abs z) (2 ^ 126)

-- m times the numbers of one list and n times those of the other, where a missing number is 0
abbrev pub combined : ℤ → List ℤ → ℤ → List ℤ → List ℤ
combined m [] n [] = []
combined m [] n (y ∷ ys) = (n *ℤ y) ∷ combined m [] n ys
combined m (x ∷ xs) n [] = (m *ℤ x) ∷ combined m xs n []
combined m (x ∷ xs) n (y ∷ ys) = (m *ℤ x +ℤ n *ℤ y) ∷ combined m xs n ys

-- whether two products and their sum are within the limit
abbrev pub sum_small : ℤ → ℤ → ℤ → ℤ → Bool
sum_small m x n y = is_small (m *ℤ x) && is_small (n *ℤ y) && is_small (m *ℤ x +ℤ n *ℤ y)

-- the same of each number that is so combined
abbrev pub sums_small : ℤ → List ℤ → ℤ → List ℤ → List Bool
sums_small m [] n [] = []
sums_small m [] n (y ∷ ys) = is_small (n *ℤ y) ∷ sums_small m [] n ys
sums_small m (x ∷ xs) n [] = is_small (m *ℤ x) ∷ sums_small m xs n []
sums_small m (x ∷ xs) n (y ∷ ys) = sum_small m x n y ∷ sums_small m xs n ys

-- m times the first form and n times the second
abbrev pub combination : ℤ → Aff → ℤ → Aff → Aff
combination m f n g = record { coefs = combined m f.coefs n g.coefs; constant = m *ℤ f.constant +ℤ n *ℤ g.constant }

-- the position of the first number of a combination that passes the limit, itself or by a product in it
abbrev pub first_past : ℤ → Aff → ℤ → Aff → Option ℕ
first_past m f n g = position_from not 0 (sums_small m (numbers f) n (numbers g))

-- how one row comes about: it stays, or it is made as m times a first row and n times a second
pub data Made : Type 0 where
  stays : Row → Made
  joined : ℤ → Row → ℤ → Row → Made

-- the first row, of coefficient a, and the second, of coefficient c other than 0, so that the variable falls out: (|c| / g) * first - sign(c) * (a / g) * second
unfoldable pub canceled : ℕ → Row → Row → Made
canceled x first second =
    let a = coef_at x first in
    let c = coef_at x second in
    let g = pos (gcd (unsigned_abs a) (unsigned_abs c)) in
    joined (int_div (pos (unsigned_abs c)) g) first (int_div (cond (int_lt c (pos 0)) a (neg_ℤ a)) g) second

-- the row divided by the greatest common divisor of its numbers, unless that is 0
abbrev pub divided_by : ℕ → Row → Row
divided_by g r = cond (nat_le g 0) r (record { equal = r.equal; form = record { coefs = map (λ z. int_div z (pos g)) r.form.coefs; constant = int_div r.form.constant (pos g) } })

unfoldable pub reduced : Row → Row
reduced r = divided_by (gcd_of (numbers r.form)) r

-- the row that is made
unfoldable pub outcome : Made → Row
outcome (stays r) = r
outcome (joined m r n s) = reduced (record { equal = r.equal; form = combination m r.form n s.form })

-- whether all products and sums that make it are within the limit
unfoldable pub made_small : Made → Bool
made_small (stays r) = true
made_small (joined m r n s) = list_all (λ b. b) (sums_small m (numbers r.form) n (numbers s.form))

-- the rows with the variable, and their coefficient's sign
abbrev pub holds_not : ℕ → Row → Bool
holds_not x r = int_eq (coef_at x r) (pos 0)

abbrev pub is_above : ℕ → Row → Bool
is_above x r = int_lt (pos 0) (coef_at x r)

abbrev pub is_below : ℕ → Row → Bool
is_below x r = int_lt (coef_at x r) (pos 0)

abbrev pub is_equality_with : ℕ → Row → Bool
is_equality_with x r = r.equal && not (holds_not x r)

-- rule 1: an equality that holds the variable is put in for it
abbrev pub substituted : ℕ → Row → Row → Made
substituted x e r = cond (holds_not x r) (stays r) (canceled x r e)

-- rule 2: the rows without the variable stay, and behind them each lower bound meets each upper one
unfoldable pub paired : ℕ → List Row → List Made
paired x rows =
    map stays (filter (holds_not x) rows) ++ flat_map (λ p. map (canceled x p) (filter (is_below x) rows)) (filter (is_above x) rows)

-- the rows of an elimination before rules 3 and 4
abbrev pub made_with : ℕ → List Row → ℕ → Option Row → List Made
made_with x rows i (Some e) = map (substituted x e) (remove rows i)
made_with x rows i None = paired x rows

unfoldable pub made : ℕ → List Row → List Made
made x rows = let i = position_or_len (is_equality_with x) rows in made_with x rows i (slice_get rows i)

-- rule 4: of inequalities with equal coefficients the first place with the least constant; of equal equalities the first
abbrev pub is_same_kind : Row → Row → Bool
is_same_kind r s = cond r.equal (s.equal && int_eq r.form.constant s.form.constant) (not s.equal)

abbrev pub is_alike : Row → Row → Bool
is_alike r s = is_same_kind r s && pointwise int_eq r.form.coefs s.form.coefs

abbrev pub tightest : Row → Row → Row
tightest r s = record { equal = r.equal; form = record { coefs = r.form.coefs; constant = int_min r.form.constant s.form.constant } }

abbrev pub absorbed : List Row → Row → List Row
absorbed [] s = s ∷ []
absorbed (r ∷ rows) s = cond (is_alike r s) (tightest r s ∷ rows) (r ∷ absorbed rows s)

unfoldable pub merged : List Row → List Row
merged rows = fold absorbed [] rows

-- the rows after the variable at position x is eliminated, or the limit that this passes: `Large` before `Many`
unfoldable pub elimination : ℕ → List Row → Result (List Row) Excess
elimination x rows =
    let steps = made x rows in
    let left = merged (map outcome steps) in
    cond (list_all made_small steps) (cond (nat_le (length left) 4096) (Ok left) (Err (Many x))) (Err (Large x))
