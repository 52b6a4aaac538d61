-- What carries an order, and the rows of differences.
use Rattle.std.specs.Prelude.{ℕ, zero, suc, ◌+◌, Bool, true, false, cond, List, [], ◌∷◌, ◌++◌, map, drop, ℤ, pos}
use Rattle.std.specs.List.{range_with_len}
use Rattle.int_rows.specs.declared.row.Aff.{Aff}
use Rattle.int_rows.specs.declared.row.Row.{Row}
use Rattle.nest_core.specs.Order.{is_earlier}
use Rattle.nest_tree.specs.Carriers.{shared}
use Rattle.nest_systems.specs.Sums.{number_at, stopped_difference}

abbrev pub from_one : ℕ → ℕ
from_one l = l + 1

-- each shared loop, counted from 1, and last 0, for the text, where the first stands before the second
abbrev pub carriers : List ℕ → List ℕ → List ℕ
carriers ps qs = map from_one (range_with_len 0 (shared ps qs)) ++ cond (is_earlier ps qs) (0 ∷ []) []

unfoldable pub difference_at : List ℤ → List ℤ → ℕ → ℤ
difference_at xs ys v = stopped_difference (number_at xs v) (number_at ys v)

-- a - b - less is 0, or is at least 0, over so many variables
unfoldable pub difference_row : ℕ → Bool → Aff → Aff → ℤ → Row
difference_row vars equal a b less = record {
  equal = equal;
  form = record {
    coefs = map (difference_at a.coefs b.coefs) (range_with_len 0 vars);
    constant = stopped_difference (stopped_difference a.constant b.constant) less;
  };
}

-- so many forms of the first list are equal to those of the second, as far as both lists go
unfoldable pub equal_rows : ℕ → ℕ → List Aff → List Aff → List Row
equal_rows vars zero xs ys = []
equal_rows vars (suc n) [] ys = []
equal_rows vars (suc n) (x ∷ xs) [] = []
equal_rows vars (suc n) (x ∷ xs) (y ∷ ys) = difference_row vars true x y (pos 0) ∷ equal_rows vars n xs ys

-- the early one's first form is smaller than the late one's, where both have one
abbrev pub smaller_rows : ℕ → List Aff → List Aff → List Row
smaller_rows vars [] ls = []
smaller_rows vars (e ∷ es) [] = []
smaller_rows vars (e ∷ es) (l ∷ ls) = difference_row vars false l e (pos 1) ∷ []

-- an instance is before another, as a carrier says: they agree at the loops before it, and the early one's value is smaller at it; by the text they agree at all shared loops
unfoldable pub order_rows : ℕ → ℕ → ℕ → List Aff → List Aff → List Row
order_rows vars zero shared early late = equal_rows vars shared late early
order_rows vars (suc level) shared early late = equal_rows vars level late early ++ smaller_rows vars (drop level early) (drop level late)
