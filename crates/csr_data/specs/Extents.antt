-- The extents of an array, three of them.
use Rattle.std.specs.Prelude.{◌≡◌, ℕ, ◌*◌, ◌≤◌, ℤ, pos, negsuc, unsigned_abs, List, [], ◌∷◌, length, slice_index_or, Option, Some, None}

abbrev pub first_negative : List ℤ → Option ℤ
first_negative [] = None
first_negative (pos n ∷ es) = first_negative es
first_negative (negsuc n ∷ es) = Some (negsuc n)

abbrev pub extent_at : List ℤ → ℕ → ℕ
extent_at es k = unsigned_abs (slice_index_or es k (pos 0))

-- how many cells there are
abbrev pub cells_wanted : List ℤ → ℕ
cells_wanted es = extent_at es 0 * (extent_at es 1 * extent_at es 2)

-- where not too many numbers were found, these are all of them
abbrev pub Stores : List ℤ → ℕ → List ℕ → Type 0
Stores es found vs = first_negative es ≡ None → found ≤ cells_wanted es → length vs ≡ found
