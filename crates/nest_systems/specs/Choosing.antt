-- Which terms of a statement are variables of a system: those that rows and forms hold, by first appearance, each cell once; the terms in an argument come right before the one that holds them.
use Rattle.std.specs.Prelude.{ℕ, zero, suc, ◌+◌, ◌-◌, Bool, true, false, cond, not, ◌&&◌, nat_lt, bytes_eq, is_some, List, [], ◌∷◌, ◌++◌, map, length, replicate, filter, slice_get, slice_set, slice_index_or, ℤ, Option, Some, None}
use Rattle.std.specs.List.{list_all, position_from, range_with_len}
use Rattle.std.specs.Ordering.{int_eq}
use Rattle.c_tree.specs.declared.program.Program.{Program}
use Rattle.int_rows.specs.declared.row.Aff.{Aff}
use Rattle.int_rows.specs.declared.row.Row.{Row}
use Rattle.nest_tree.specs.declared.kernel.Term.{Term}
use Rattle.nest_tree.specs.declared.made.Made.{Made}
use Rattle.nest_systems.specs.declared.choose.Chosen.{Chosen}
use Rattle.nest_systems.specs.declared.range.Span.{Span}
use Rattle.nest_systems.specs.Sums.{number_at}
use Rattle.nest_systems.specs.Ranges.{Names, value_span}
use Rattle.nest_systems.specs.Extents.{has_name}
use Rattle.nest_systems.specs.Begun.{is_zero}
use Rattle.nest_systems.specs.Placing.{numbers_there, small_total}
use Rattle.nest_systems.specs.Parts.{is_first_cell}

abbrev pub same_total : Option ℤ → Option ℤ → Bool
same_total (Some x) (Some y) = int_eq x y
same_total (Some x) None = false
same_total None y = false

-- two forms hold the terms for which one stands equally often, all taken together
abbrev pub balances : ℕ → List (Option ℕ) → List ℤ → List ℤ → ℕ → Bool
balances first same a b one = same_total (small_total (numbers_there first same one a)) (small_total (numbers_there first same one b))

abbrev pub same_number : List ℤ → List ℤ → ℕ → Bool
same_number a b v = int_eq (number_at a v) (number_at b v)

-- two forms are equal where each term counts as the one that stands for it
unfoldable pub are_equal : ℕ → List (Option ℕ) → Aff → Aff → Bool
are_equal first same a b =
    int_eq a.constant b.constant && (list_all (same_number a.coefs b.coefs) (range_with_len 0 first) && list_all (balances first same a.coefs b.coefs) (range_with_len 0 (length same)))

abbrev pub are_all_equal : ℕ → List (Option ℕ) → List Aff → List Aff → Bool
are_all_equal first same [] [] = true
are_all_equal first same [] (b ∷ ys) = false
are_all_equal first same (a ∷ xs) [] = false
are_all_equal first same (a ∷ xs) (b ∷ ys) = are_equal first same a b && are_all_equal first same xs ys

-- two terms read the same cell
abbrev pub are_alike : ℕ → List (Option ℕ) → Term → Term → Bool
are_alike first same t u = bytes_eq t.array u.array && are_all_equal first same t.at u.at

abbrev pub is_alike : ℕ → List (Option ℕ) → Option Term → Option Term → Bool
is_alike first same (Some t) (Some u) = are_alike first same t u
is_alike first same (Some t) None = false
is_alike first same None u = false

-- the first of some terms that reads the same cell as one
abbrev pub find_alike : ℕ → List Term → List (Option ℕ) → List ℕ → ℕ → Option ℕ
find_alike first terms same [] term = None
find_alike first terms same (t ∷ ts) term = cond (is_alike first same (slice_get terms t) (slice_get terms term)) (Some t) (find_alike first terms same ts term)

abbrev pub or_else : Option ℕ → Option ℕ → Option ℕ
or_else (Some t) u = Some t
or_else None u = u

-- the variable that reads the same cell as a term
abbrev pub find_met : List Term → Chosen → ℕ → Option ℕ
find_met terms c term = or_else (find_alike c.first terms c.same c.order term) (find_alike c.first terms c.same c.ends term)

-- a term is met where one stands for it
abbrev pub is_met : Chosen → ℕ → Bool
is_met c term = is_some (slice_index_or c.same term None)

abbrev pub with_same : Chosen → ℕ → ℕ → Chosen
with_same c term one = record { first = c.first; ends_from = c.ends_from; order = c.order; ends = c.ends; same = slice_set c.same term (Some one) }

abbrev pub in_order : Chosen → ℕ → Chosen
in_order c term = record { first = c.first; ends_from = c.ends_from; order = c.order ++ term ∷ []; ends = c.ends; same = c.same }

abbrev pub at_end : Chosen → ℕ → Chosen
at_end c term = record { first = c.first; ends_from = c.ends_from; order = c.order; ends = c.ends ++ term ∷ []; same = c.same }

-- a term stands for itself, in order, or among the last terms at the very end
abbrev pub added : Chosen → ℕ → Chosen
added c term = cond (nat_lt term c.ends_from) (in_order (with_same c term term) term) (at_end (with_same c term term) term)

abbrev pub chosen_by : Chosen → ℕ → Option ℕ → Chosen
chosen_by c term (Some one) = with_same c term one
chosen_by c term None = added c term

-- a term is a variable, unless one that reads the same cell is
abbrev pub chosen : List Term → Chosen → ℕ → Chosen
chosen terms c term = chosen_by c term (find_met terms c term)

-- a way to meet the terms with these numbers, of which a form holds some
abbrev pub over_terms : (Chosen → ℕ → Chosen) → Aff → List ℕ → Chosen → Chosen
over_terms meet f [] c = c
over_terms meet f (i ∷ is) c = over_terms meet f is (cond (is_zero (number_at f.coefs (c.first + i))) c (meet c i))

-- the terms that forms hold are met, form by form
abbrev pub over_forms : (Chosen → ℕ → Chosen) → ℕ → List Aff → Chosen → Chosen
over_forms meet count [] c = c
over_forms meet count (f ∷ fs) c = over_forms meet count fs (over_terms meet f (range_with_len 0 count) c)

abbrev pub arguments : Option Term → List Aff
arguments (Some t) = t.at
arguments None = []

-- a term is met: those in its arguments first, so many levels deep
unfoldable pub meet_term : List Term → ℕ → Chosen → ℕ → Chosen
meet_term terms zero c term = cond (is_met c term) c (chosen terms c term)
meet_term terms (suc deep) c term = cond (is_met c term) c (chosen terms (over_forms (meet_term terms deep) (length terms) (arguments (slice_get terms term)) c) term)

abbrev pub form_of : Row → Aff
form_of r = r.form

-- no term is met yet
abbrev pub none_chosen : ℕ → ℕ → ℕ → Chosen
none_chosen first ends_from count = record { first = first; ends_from = ends_from; order = []; ends = []; same = replicate count None }

-- the terms that rows and then forms hold; of all terms the last so many stand at the very end
unfoldable pub chosen_of : ℕ → List Term → ℕ → List Row → List Aff → Chosen
chosen_of first terms extras rows forms =
    over_forms (meet_term terms (length terms)) (length terms) forms
    (over_forms (meet_term terms (length terms)) (length terms) (map form_of rows) (none_chosen first (length terms - extras) (length terms)))

abbrev pub count_of : Option Span → Option (List ℕ)
count_of (Some s) = s.count
count_of None = None

abbrev pub value_count : Program → List Made → Option Term → Option (List ℕ)
value_count head made (Some t) = count_of (value_span head made t.array)
value_count head made None = None

-- a name more, where it is new
abbrev pub with_name : Names → Option (List ℕ) → Names
with_name names (Some name) = cond (is_some (position_from (has_name name) 0 names)) names (names ++ name ∷ [])
with_name names None = names

-- the arrays count of the value ranges of terms, each once
abbrev pub value_counts : Program → List Made → List Term → List ℕ → Names → Names
value_counts head made terms [] names = names
value_counts head made terms (t ∷ ts) names = value_counts head made terms ts (with_name names (value_count head made (slice_get terms t)))

abbrev pub end_chosen : Chosen → Option ℕ → Chosen
end_chosen c (Some t) = cond (is_met c t) c (at_end (with_same c t t) t)
end_chosen c None = c

-- of the reads count[0], those that are terms are variables at the very end
abbrev pub counts_chosen : List Term → Names → Chosen → Chosen
counts_chosen terms [] c = c
counts_chosen terms (name ∷ names) c = counts_chosen terms names (end_chosen c (position_from (is_first_cell name) 0 terms))

-- and those that aren't
abbrev pub is_missing : List Term → List ℕ → Bool
is_missing terms name = not (is_some (position_from (is_first_cell name) 0 terms))

abbrev pub with_more : Chosen → ℕ → Chosen
with_more c term = record { first = c.first; ends_from = c.ends_from; order = c.order; ends = c.ends; same = c.same ++ Some term ∷ [] }

-- a further term at the very end, which stands for itself
abbrev pub one_more : Chosen → Chosen
one_more c = at_end (with_more c (length c.same)) (length c.same)

abbrev pub and_more : ℕ → Chosen → Chosen
and_more zero c = c
and_more (suc n) c = one_more (and_more n c)

abbrev pub counts_of : Program → List Made → List Term → Chosen → Names
counts_of head made terms c = value_counts head made terms c.order []

abbrev pub missing_of : Program → List Made → List Term → Chosen → Names
missing_of head made terms c = filter (is_missing terms) (counts_of head made terms c)

-- with the reads count[0] that the value ranges of these terms need
unfoldable pub with_counts : Program → List Made → List Term → Chosen → Chosen
with_counts head made terms c = and_more (length (missing_of head made terms c)) (counts_chosen terms (counts_of head made terms c) c)
