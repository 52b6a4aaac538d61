-- Where variables stand once a level has gone in before another one.
use Rattle.std.specs.Prelude.{ℕ, suc, ◌+◌, ◌-◌, ◌<◌, ◌≤◌, ◌^◌, cond, nat_lt, Option, Some, None, IfSome}
use Rattle.make_dense.specs.declared.places.Places.{Places}

-- how many terms there are more
abbrev pub further : Option ℕ → ℕ
further (Some k) = 0
further None = 1

-- how many variables there are
abbrev pub vars : Places → ℕ
vars s = s.params + suc s.depth + s.terms + further s.column

-- the new level
abbrev pub dense_var : Places → ℕ
dense_var s = s.params + (s.level - 1)

-- the level that goes over the entries
abbrev pub entry_var : Places → ℕ
entry_var s = s.params + s.level

abbrev pub place_or : Option ℕ → ℕ → ℕ
place_or (Some k) n = k
place_or None n = n

-- the read of the entry's column: the term that there was, or the new one behind the others
abbrev pub column_var : Places → ℕ
column_var s = s.params + suc s.depth + place_or s.column s.terms

-- the new place of the old level at place l
abbrev pub new_place : ℕ → ℕ → ℕ
new_place level l = cond (nat_lt (suc l) level) l (suc l)

-- the new level is one of the statement's, and the column is one of its terms
pub record IsPlaces (s : Places) : Type 0 where
  pub low : 1 ≤ s.level
  pub high : s.level ≤ s.depth
  pub column : IfSome s.column (λ k. k < s.terms)
  pub room : vars s < 2 ^ 64
