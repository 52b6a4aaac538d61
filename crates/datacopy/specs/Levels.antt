-- The levels that the forms of a statement name. Levels are told by their places, which count from 0.
use Rattle.std.specs.Prelude.{ℕ, zero, suc, ◌+◌, Bool, false, cond, nat_le, ◌&&◌, ◌||◌, length}
use Rattle.int_rows.specs.declared.row.Aff.{Aff}
use Rattle.nest_tree.specs.declared.kernel.Nest.{Nest}
use Rattle.nest_core.specs.Terms.{names, names_inside}

-- some number below d passes the test
abbrev pub any_below : (ℕ → Bool) → ℕ → Bool
any_below p zero = false
any_below p (suc d) = any_below p d || p d

-- the form names the level, as a level or in an argument of a term
unfoldable pub names_level : ℕ → Nest → Aff → ℕ → Bool
names_level params n f l = names (params + length n.levels) n.terms (params + l) (length n.terms) f

-- a term that the form holds names the level in an argument
unfoldable pub holds_level : ℕ → Nest → Aff → ℕ → Bool
holds_level params n f l = names_inside (params + length n.levels) n.terms (params + l) (length n.terms) f

-- the form names the term, as itself or in an argument of another
unfoldable pub names_term : ℕ → Nest → ℕ → Aff → Bool
names_term params n t f = names (params + length n.levels) n.terms (params + length n.levels + t) (length n.terms) f

-- the form names a level from this place on
abbrev pub names_from : ℕ → Nest → ℕ → Aff → Bool
names_from params n place f = any_below (λ l. nat_le place l && names_level params n f l) (length n.levels)

-- a term that the form holds names such a level in an argument
abbrev pub holds_from : ℕ → Nest → ℕ → Aff → Bool
holds_from params n place f = any_below (λ l. nat_le place l && holds_level params n f l) (length n.levels)

-- the last of the first d numbers that passes the test, counted from 1, or 0
abbrev pub last_below : (ℕ → Bool) → ℕ → ℕ
last_below p zero = 0
last_below p (suc d) = cond (p d) (suc d) (last_below p d)
