-- Rows that lie in one list of numbers, the constant of each behind its coefficients.
use Rattle.std.specs.Prelude.{◌≡◌, ℕ, suc, ◌*◌, Bool, List, [], ◌∷◌, length, take, drop, ℤ, pos, slice_index_or}
use Rattle.int_rows.specs.declared.row.Row.{Row}

-- the rows over so many variables, by whether they are equalities and by their numbers
abbrev pub unpacked : ℕ → List Bool → List ℤ → List Row
unpacked v [] zs = []
unpacked v (e ∷ es) zs = record { equal = e; form = record { coefs = take v zs; constant = slice_index_or zs v (pos 0) } } ∷ unpacked v es (drop (suc v) zs)

-- there are as many numbers as the rows have
abbrev pub IsPacked : ℕ → List Bool → List ℤ → Type 0
IsPacked v es zs = length zs ≡ length es * suc v
