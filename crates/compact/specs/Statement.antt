-- The statement over the places of kept values.
use Rattle.std.specs.Prelude.{◌≡◌, IsTrue, ℕ, ◌<◌, ◌≤◌, ◌^◌, ◌+◌, ◌-◌, cond, nat_eq, List, [], ◌∷◌, ◌++◌, length, map, replicate, slice_set, ℤ, pos, negsuc, None, Result, Ok, false}
use Rattle.std.specs.List.{range_with_len, list_all}
use Rattle.int_rows.specs.declared.row.Aff.{Aff}
use Rattle.int_rows.specs.declared.row.Excess.{Excess}
use Rattle.nest_tree.specs.declared.form.Form.TheVariants.{Other}
use Rattle.nest_tree.specs.declared.kernel.KernelRow.{KernelRow}
use Rattle.nest_tree.specs.declared.kernel.Nest.{Nest}
use Rattle.nest_tree.specs.declared.kernel.Term.{Term}
use Rattle.nest_core.specs.Making.{after, each_made}
use Rattle.nest_core.specs.Pieces.{access_made, body_made, term_made}
use Rattle.nest_core.specs.Shapes.{is_row_over, is_term_over, is_access_over, is_body_over}
use Rattle.nest_systems.specs.Spans.{unit_form}
use Rattle.one_statement.specs.declared.images.Images.{Images}
use Rattle.one_statement.specs.Images.{image_of, same_row}
use Rattle.inspectors.specs.declared.level.Group.{Group}
use Rattle.inspectors.specs.declared.level.Group.TheVariants.{All, Rows}
use Rattle.inspectors.specs.declared.names.MarkNames.{MarkNames}
use Rattle.compact.specs.declared.counts.Counts.{Counts}
use Rattle.compact.specs.declared.parts.Parts.{Parts}

-- how many variables the statement had, and has
abbrev pub old_vars : Counts → ℕ
old_vars v = v.params + v.levels + v.terms

abbrev pub new_vars : Counts → ℕ
new_vars v = old_vars v + 3

-- the variable of the level, and of each new term: the kept value at the level's place, where the kept values of the group begin, and where they end
abbrev pub place_var : Counts → ℕ
place_var v = v.params + v.level

abbrev pub value_var : Counts → ℕ
value_var v = old_vars v

abbrev pub begin_var : Counts → ℕ
begin_var v = old_vars v + 1

abbrev pub end_var : Counts → ℕ
end_var v = old_vars v + 2

-- the variable that stands for a level or a term: the kept value for the level, and for all others themselves
abbrev pub image_var : Counts → ℕ → ℕ
image_var v i = cond (nat_eq i v.level) (value_var v) (v.params + i)

abbrev pub image_at : Counts → ℕ → Aff
image_at v i = unit_form (image_var v i) (new_vars v)

unfoldable pub images : Counts → Images
images v = record { params = v.params; vars = new_vars v; forms = map (image_at v) (range_with_len 0 (v.levels + v.terms)) }

-- a constant
abbrev pub constant_form : ℕ → ℤ → Aff
constant_form vars z = record { coefs = replicate vars (pos 0); constant = z }

-- the form with this constant
abbrev pub with_constant : Aff → ℤ → Aff
with_constant f z = record { coefs = f.coefs; constant = z }

-- the group plus a number: the group is the first level, or 0
abbrev pub group_plus : Counts → Group → ℤ → Aff
group_plus v All z = constant_form (new_vars v) z
group_plus v (Rows r) z = with_constant (unit_form v.params (new_vars v)) z

abbrev pub read_of : List ℕ → Aff → Term
read_of x f = record { array = x; at = f ∷ [] }

-- the kept value at the level's place, and where the kept values of a group begin
abbrev pub value_term : Counts → MarkNames → Term
value_term v b = read_of b.val (unit_form (place_var v) (new_vars v))

abbrev pub pointer_term : Counts → Group → MarkNames → ℤ → Term
pointer_term v g b z = read_of b.ptr (group_plus v g z)

unfoldable pub new_terms : Counts → Group → MarkNames → List Term
new_terms v g b = value_term v b ∷ pointer_term v g b (pos 0) ∷ pointer_term v g b (pos 1) ∷ []

-- a - b + z
unfoldable pub difference : ℕ → ℕ → ℕ → ℤ → Aff
difference vars a b z = record { coefs = slice_set (slice_set (replicate vars (pos 0)) a (pos 1)) b (negsuc 0); constant = z }

-- the bound of the level that a - b + z is at least 0
abbrev pub bound : Counts → ℕ → ℕ → ℤ → KernelRow
bound v a b z = record { row = record { equal = false; form = difference (new_vars v) a b z }; own = v.level + 1 }

-- the place runs over those of the group
unfoldable pub new_rows : Counts → List KernelRow
new_rows v = bound v (place_var v) (begin_var v) (pos 0) ∷ bound v (end_var v) (place_var v) (negsuc 0) ∷ []

-- the rows, the terms and the cells with the levels and terms in them replaced: the rows first, then the arguments of the terms, then the subscripts
unfoldable pub parts : Images → Nest → Result Parts Excess
parts i n =
    after (each_made (same_row i) n.rows) (λ rows.
    after (each_made (term_made (image_of i)) n.terms) (λ terms.
    after (access_made (image_of i) n.target) (λ target.
    after (body_made (image_of i) n.value) (λ value.
    Ok (record { rows = rows; terms = terms; target = target; value = value })))))

-- the statement with these parts, and the terms and rows of the level; it doesn't go over a whole matrix any more
abbrev pub assembled : Counts → Group → MarkNames → Nest → Parts → Nest
assembled v g b n p = record {
  levels = replicate (length n.levels) Other;
  positions = n.positions;
  terms = p.terms ++ new_terms v g b;
  rows = p.rows ++ new_rows v;
  target = p.target;
  how = n.how;
  value = p.value;
  whole = None;
}

-- the statement over the places of kept values
unfoldable pub compacted : Counts → Group → MarkNames → Nest → Result Nest Excess
compacted v g b n = after (parts (images v) n) (λ p. Ok (assembled v g b n p))

-- how the variables of a statement stand
abbrev pub counts_of : ℕ → Nest → ℕ → Counts
counts_of params n level = record { params = params; levels = length n.levels; terms = length n.terms; level = level - 1 }

-- there are at most 8 levels, the compacted one is among them, and the variables can be counted
pub record AreCounts (v : Counts) : Type 0 where
  pub level : v.level < v.levels
  pub levels : v.levels ≤ 8
  pub room : new_vars v < 2 ^ 64

-- the parts are over so many variables and levels, and so many terms
pub record AreParts (vars depth many : ℕ) (p : Parts) : Type 0 where
  pub rows : IsTrue (list_all (is_row_over vars depth) p.rows)
  pub terms : IsTrue (list_all (is_term_over vars) p.terms)
  pub count : length p.terms ≡ many
  pub target : IsTrue (is_access_over vars p.target)
  pub value : IsTrue (is_body_over vars p.value)

-- they are those of a statement
pub record AreOf (many : ℕ) (n : Nest) (v : Counts) : Type 0 where
  pub params : v.params ≡ many
  pub levels : v.levels ≡ length n.levels
  pub terms : v.terms ≡ length n.terms

-- the images are over the new variables, one for each level and term
pub record AreImages (v : Counts) (i : Images) : Type 0 where
  pub params : i.params ≡ v.params
  pub vars : i.vars ≡ new_vars v
  pub count : length i.forms ≡ v.levels + v.terms
