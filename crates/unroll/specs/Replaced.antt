-- The variables that forms name when a level is replaced by its lower bound, which is its variable less the lower row.
use Rattle.std.specs.Prelude.{ℕ, zero, suc, Bool, true, not, ◌&&◌, ◌||◌, List, [], ◌∷◌, false, ℤ, pos, slice_index_or, Option, Some, None}
use Rattle.std.specs.Ordering.{int_eq}
use Rattle.std.specs.List.{list_any}
use Rattle.int_rows.specs.declared.row.Aff.{Aff}
use Rattle.nest_tree.specs.declared.kernel.Term.{Term}
use Rattle.nest_core.specs.Numbers.{product}

abbrev pub differs : ℤ → Option ℤ → Bool
differs z (Some p) = not (int_eq z p)
differs z None = true

-- the variable then has a coefficient other than 0: its own one, less the level's times the lower row's
unfoldable pub held_after : List ℤ → ℕ → List ℤ → ℕ → Bool
held_after lower at cs v = differs (slice_index_or cs v (pos 0)) (product (slice_index_or cs at (pos 0)) (slice_index_or lower v (pos 0)))

-- some term that is then held passes the test; the terms are the variables from v on
abbrev pub any_after : (Term → Bool) → List ℤ → ℕ → List ℤ → ℕ → List Term → Bool
any_after p lower at cs v [] = false
any_after p lower at cs v (t ∷ ts) = (held_after lower at cs v && p t) || any_after p lower at cs (suc v) ts

-- the form then names the variable: it holds it, or a term that it holds names it in an argument, at most so many terms deep
abbrev pub names_after : ℕ → List Term → List ℤ → ℕ → ℕ → ℕ → Aff → Bool
names_after first terms lower at var zero f = held_after lower at f.coefs var
names_after first terms lower at var (suc deep) f = held_after lower at f.coefs var || any_after (λ t. list_any (names_after first terms lower at var deep) t.at) lower at f.coefs first terms

abbrev pub names_inside_after : ℕ → List Term → List ℤ → ℕ → ℕ → ℕ → Aff → Bool
names_inside_after first terms lower at var deep f = any_after (λ t. list_any (names_after first terms lower at var deep) t.at) lower at f.coefs first terms
