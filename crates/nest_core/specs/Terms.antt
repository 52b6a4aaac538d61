-- The variables that forms name, also inside the arguments of their terms.
use Rattle.std.specs.Prelude.{ℕ, zero, suc, Bool, false, not, ◌&&◌, ◌||◌, List, [], ◌∷◌, ℤ, pos, slice_index_or}
use Rattle.std.specs.Ordering.{int_eq}
use Rattle.std.specs.List.{list_any}
use Rattle.int_rows.specs.declared.row.Aff.{Aff}
use Rattle.nest_tree.specs.declared.kernel.Term.{Term}

-- the variable has a coefficient other than 0
unfoldable pub held : List ℤ → ℕ → Bool
held cs v = not (int_eq (slice_index_or cs v (pos 0)) (pos 0))

-- some term that is held passes the test; the terms are the variables from v on
abbrev pub any_term : (Term → Bool) → List ℤ → ℕ → List Term → Bool
any_term p cs v [] = false
any_term p cs v (t ∷ ts) = (held cs v && p t) || any_term p cs (suc v) ts

-- the form names the variable: it holds it, or a term that it holds names it in an argument, at most so many terms deep; the terms are the variables from `first` on
abbrev pub names : ℕ → List Term → ℕ → ℕ → Aff → Bool
names first terms var zero f = held f.coefs var
names first terms var (suc deep) f = held f.coefs var || any_term (λ t. list_any (names first terms var deep) t.at) f.coefs first terms

-- a term that the form holds names the variable in an argument, at most so many terms deeper
abbrev pub names_inside : ℕ → List Term → ℕ → ℕ → Aff → Bool
names_inside first terms var deep f = any_term (λ t. list_any (names first terms var deep) t.at) f.coefs first terms
