-- Names, places and subscripts, and when two are the same.
use Rattle.std.specs.Prelude.{◌≡◌, ◌⊎◌, ℕ, ℤ, pos, ◌<ℤ◌, ◌++◌, Bool, List, [], ◌∷◌}
use Rattle.std.specs.Str.{bytes_eq}
use Rattle.std.specs.Ordering.{int_eq}
use Rattle.std.specs.Cmp.Lexicographic.{pointwise}

-- a name is its bytes
abbrev pub Name : Type 0
Name = List ℕ

abbrev pub same_name : Name → Name → Bool
same_name a b = bytes_eq a b

abbrev pub same_numbers : List ℤ → List ℤ → Bool
same_numbers a b = pointwise int_eq a b

-- child position, loop value, child position, and so on
abbrev pub Place : Type 0
Place = List ℤ

-- the place with one more child position
abbrev pub child : Place → ℕ → Place
child at n = at ++ pos n ∷ []

-- one place is before another
abbrev pub IsBefore : Place → Place → Type 0
IsBefore [] [] = ⊥
IsBefore [] (q ∷ qs) = Unit
IsBefore (p ∷ ps) [] = ⊥
IsBefore (p ∷ ps) (q ∷ qs) = (p <ℤ q) ⊎ ((p ≡ q) × IsBefore ps qs)

-- the subscripts of a cell are three, of which missing ones are 0
abbrev pub line : ℤ → List ℤ
line i = i ∷ pos 0 ∷ pos 0 ∷ []
