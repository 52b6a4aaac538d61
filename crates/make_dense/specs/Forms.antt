-- Forms of one and of two variables, and terms that read an array at one.
use Rattle.std.specs.Prelude.{ℕ, suc, Bool, true, false, cond, nat_eq, ◌&&◌, bytes_eq, List, [], ◌∷◌, map, ℤ, pos, negsuc, Option, Some, None}
use Rattle.std.specs.Ordering.{int_eq}
use Rattle.std.specs.List.{range_with_len}
use Rattle.int_rows.specs.declared.row.Aff.{Aff}
use Rattle.nest_tree.specs.declared.kernel.Term.{Term}

-- the coefficient of variable v in x - y; that form is x where both are one variable
abbrev pub coef_of_difference : ℕ → ℕ → ℕ → ℤ
coef_of_difference x y v = cond (nat_eq v x) (pos 1) (cond (nat_eq v y) (negsuc 0) (pos 0))

-- x - y over so many variables
unfoldable pub difference : ℕ → ℕ → ℕ → Aff
difference vars x y = record { coefs = map (coef_of_difference x y) (range_with_len 0 vars); constant = pos 0 }

-- the coefficients of the variables from v on are those of x - y
abbrev pub has_coefs : ℕ → ℕ → ℕ → List ℤ → Bool
has_coefs x y v [] = true
has_coefs x y v (z ∷ zs) = int_eq z (coef_of_difference x y v) && has_coefs x y (suc v) zs

-- the form is x - y + constant
unfoldable pub is_difference : ℕ → ℕ → ℤ → Aff → Bool
is_difference x y constant f = has_coefs x y 0 f.coefs && int_eq f.constant constant

-- the arguments are one variable plus a number
abbrev pub is_at : ℕ → ℤ → List Aff → Bool
is_at v shift [] = false
is_at v shift (f ∷ []) = is_difference v v shift f
is_at v shift (f ∷ g ∷ fs) = false

-- the term reads the array at a variable plus a number, and at nothing else
abbrev pub reads_at : List ℕ → ℕ → ℤ → Term → Bool
reads_at array v shift t = bytes_eq t.array array && is_at v shift t.at

-- the first of the terms, the first of which has place k, that reads the array at the variable
abbrev pub find_read : List ℕ → ℕ → ℕ → List Term → Option ℕ
find_read array v k [] = None
find_read array v k (t ∷ ts) = cond (reads_at array v (pos 0) t) (Some k) (find_read array v (suc k) ts)
