-- The rows that bound an unrolled level.
use Rattle.std.specs.Prelude.{ℕ, suc, ◌+◌, ◌-◌, Bool, cond, not, ◌&&◌, ◌||◌, nat_le, nat_lt, IsTrue, List, [], ◌∷◌, length, ℤ, pos, int_lt, slice_index_or, Option, Some, None}
use Rattle.std.specs.Ordering.{int_eq}
use Rattle.std.specs.List.{list_all, list_any}
use Rattle.int_rows.specs.declared.row.Aff.{Aff}
use Rattle.nest_tree.specs.declared.kernel.KernelRow.{KernelRow}
use Rattle.nest_tree.specs.declared.kernel.Nest.{Nest}
use Rattle.nest_core.specs.Forms.{has_vars}
use Rattle.nest_core.specs.Shapes.{vars_of}
use Rattle.nest_core.specs.Terms.{held, names, names_inside}
use Rattle.affine_moves.specs.Moves.{any_below}
use Rattle.unroll.specs.declared.bounds.Bounds.{Bounds}
use Rattle.unroll.specs.Replaced.{names_after}

-- the variable of a level, which counts from 1
abbrev pub var_of : ℕ → ℕ → ℕ
var_of params level = params + (level - 1)

-- the variable of the first term
abbrev pub first_term : ℕ → Nest → ℕ
first_term params n = params + length n.levels

abbrev pub coef : Aff → ℕ → ℤ
coef f v = slice_index_or f.coefs v (pos 0)

-- the form names the level at this place, and it is a later one
abbrev pub names_later_one : ℕ → ℕ → Nest → Aff → ℕ → Bool
names_later_one params level n f place = nat_le level place && names (first_term params n) n.terms (params + place) (length n.terms) f

-- the form names a later level, as itself or in an argument
unfoldable pub names_later : ℕ → ℕ → Nest → Aff → Bool
names_later params level n f = any_below (names_later_one params level n f) (length n.levels)

-- a term of the form names the level in its argument
unfoldable pub names_in_term : ℕ → ℕ → Nest → Aff → Bool
names_in_term params level n f = names_inside (first_term params n) n.terms (var_of params level) (length n.terms) f

-- the row bounds the level from below: it holds it so often, and names no later level
unfoldable pub is_lower : ℕ → ℕ → Nest → KernelRow → Bool
is_lower params level n r = nat_lt 0 r.own && (int_lt (pos 0) (coef r.row.form (var_of params level)) && not (names_later params level n r.row.form))

-- the row bounds the level from above
unfoldable pub is_upper : ℕ → ℕ → Nest → KernelRow → Bool
is_upper params level n r = nat_lt 0 r.own && (int_lt (coef r.row.form (var_of params level)) (pos 0) && not (names_later params level n r.row.form))

-- the forms of the rows that pass the test
abbrev pub forms_where : (KernelRow → Bool) → List KernelRow → List Aff
forms_where p [] = []
forms_where p (r ∷ rows) = cond (p r) (r.row.form ∷ forms_where p rows) (forms_where p rows)

-- the places of the rows that pass the test, from place i on
abbrev pub places_where : (KernelRow → Bool) → ℕ → List KernelRow → List ℕ
places_where p i [] = []
places_where p i (r ∷ rows) = cond (p r) (i ∷ places_where p (suc i) rows) (places_where p (suc i) rows)

-- the row bounds the level
abbrev pub is_bound : ℕ → ℕ → Nest → KernelRow → Bool
is_bound params level n r = is_lower params level n r || is_upper params level n r

-- another row names the term when the level is replaced by its lower bound
abbrev pub stays_in : ℕ → ℕ → Nest → Aff → ℕ → KernelRow → Bool
stays_in params level n lower term r = not (is_lower params level n r) && names_after (first_term params n) n.terms lower.coefs (var_of params level) (first_term params n + term) (length n.terms) r.row.form

unfoldable pub stays_named : ℕ → ℕ → Nest → Aff → ℕ → Bool
stays_named params level n lower term = list_any (stays_in params level n lower term) n.rows

-- the lower row holds the term, and no other row would name it
unfoldable pub is_lost : ℕ → ℕ → Nest → Aff → ℕ → Bool
is_lost params level n lower term = held lower.coefs (first_term params n + term) && not (stays_named params level n lower term)

unfoldable pub loses_any : ℕ → ℕ → Nest → Aff → Bool
loses_any params level n lower = any_below (is_lost params level n lower) (length n.terms)

-- the lower row gives the level's lower bound as it stands, and may go
unfoldable pub is_plain : ℕ → ℕ → Nest → Aff → Bool
is_plain params level n lower = int_eq (coef lower (var_of params level)) (pos 1) && (not (names_in_term params level n lower) && not (loses_any params level n lower))

abbrev pub only_one : List Aff → Option Aff
only_one (f ∷ []) = Some f
only_one _ = None

abbrev pub bounds_by : ℕ → ℕ → Nest → Option Aff → Option Bounds
bounds_by params level n None = None
bounds_by params level n (Some lower) = cond (is_plain params level n lower)
    (Some (record { lower = lower; uppers = forms_where (is_upper params level n) n.rows; places = places_where (is_bound params level n) 0 n.rows })) None

-- the rows that bound the level, where it has one lower row that may go
unfoldable pub bounds_of : ℕ → ℕ → Nest → Option Bounds
bounds_of params level n = bounds_by params level n (only_one (forms_where (is_lower params level n) n.rows))

-- bounds of a statement: their forms are over its variables, and their places are those of its rows
pub record AreBounds (params : ℕ) (n : Nest) (b : Bounds) : Type 0 where
  pub lower : IsTrue (has_vars (vars_of params n) b.lower)
  pub uppers : IsTrue (list_all (has_vars (vars_of params n)) b.uppers)
  pub places : IsTrue (list_all (λ i. nat_lt i (length n.rows)) b.places)
