-- Forms that are equal where each term counts as the one that stands for it.
use Rattle.std.specs.Prelude.{◌≡◌, ℕ, ◌+◌, ◌<◌, ◌≤◌, List, length, ℤ, pos, true, Option, Some, None, slice_get}
use Rattle.int_rows.specs.declared.row.Aff.{Aff}
use Rattle.nest_tree.specs.Forms.{value, coef}
use Rattle.nest_systems.specs.Choosing.{are_equal}

-- each term that the form holds has one that stands for it
abbrev pub IsMet : ℕ → List (Option ℕ) → Aff → Type 0
IsMet first same f = (t : ℕ) → slice_get same t ≡ Some None → coef (first + t) f.coefs ≡ pos 0

-- a term has the value of the one that stands for it
abbrev pub StandFor : ℕ → List (Option ℕ) → List ℤ → Type 0
StandFor first same p = (t u : ℕ) → slice_get same t ≡ Some (Some u) → (u < length same) × (coef (first + t) p ≡ coef (first + u) p)

-- where terms have such values, such forms have one value
abbrev pub EqualFormsHaveOneValue : Type 0
EqualFormsHaveOneValue =
    (first : ℕ) (same : List (Option ℕ)) (a b : Aff) (p : List ℤ) → are_equal first same a b ≡ true → IsMet first same a → IsMet first same b
    → length a.coefs ≤ first + length same → length b.coefs ≤ first + length same → StandFor first same p → value p a ≡ value p b
