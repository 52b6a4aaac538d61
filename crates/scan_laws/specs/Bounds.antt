-- The bounds that rows give to a level, and the least and greatest of them.
use Rattle.std.specs.Prelude.{ℕ, zero, suc, List, [], ◌∷◌, ◌++◌, ℤ, pos, negsuc, ◌+ℤ◌, neg_ℤ, Bool, true, false}
use Rattle.std.specs.Int.{int_min, int_max, int_div_euclid}
use Rattle.int_rows.specs.declared.row.Aff.{Aff}
use Rattle.int_rows.specs.declared.row.Row.{Row}
use Rattle.nest_tree.specs.Forms.{coef}

-- the bounds of a row a*v + e >= 0, or a*v + e = 0, by its a and e: -e/a rounded up from below, and e/b rounded down, and 1 more, from above where a is -b; an equality gives both
abbrev pub lowers_of : Bool → ℤ → ℤ → List ℤ
lowers_of equal (pos zero) e = []
lowers_of equal (pos (suc d)) e = neg_ℤ (int_div_euclid e (pos (suc d))) ∷ []
lowers_of false (negsuc d) e = []
lowers_of true (negsuc d) e = neg_ℤ (int_div_euclid (neg_ℤ e) (pos (suc d))) ∷ []

abbrev pub uppers_of : Bool → ℤ → ℤ → List ℤ
uppers_of equal (pos zero) e = []
uppers_of false (pos (suc d)) e = []
uppers_of true (pos (suc d)) e = (int_div_euclid (neg_ℤ e) (pos (suc d)) +ℤ pos 1) ∷ []
uppers_of equal (negsuc d) e = (int_div_euclid e (pos (suc d)) +ℤ pos 1) ∷ []

-- the bounds that rows give to the level that is variable x, where rest tells the value of a form without this level and all later ones
abbrev pub lowers : ℕ → (Aff → ℤ) → List Row → List ℤ
lowers x rest [] = []
lowers x rest (r ∷ rows) = lowers_of r.equal (coef x (r.form).coefs) (rest r.form) ++ lowers x rest rows

abbrev pub uppers : ℕ → (Aff → ℤ) → List Row → List ℤ
uppers x rest [] = []
uppers x rest (r ∷ rows) = uppers_of r.equal (coef x (r.form).coefs) (rest r.form) ++ uppers x rest rows

-- nested to the right, as they are printed
abbrev pub greatest : List ℤ → ℤ
greatest [] = pos 0
greatest (n ∷ []) = n
greatest (n ∷ m ∷ ns) = int_max n (greatest (m ∷ ns))

abbrev pub least : List ℤ → ℤ
least [] = pos 0
least (n ∷ []) = n
least (n ∷ m ∷ ns) = int_min n (least (m ∷ ns))
