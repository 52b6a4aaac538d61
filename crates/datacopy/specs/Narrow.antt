-- The variables of a copying statement, and its rows.
use Rattle.std.specs.Prelude.{◌≡◌, ℕ, zero, suc, ◌+◌, ◌-◌, ◌≤◌, ◌<◌, ◌^◌, Bool, cond, not, ◌&&◌, ◌||◌, IsTrue, nat_lt, List, [], ◌∷◌, ◌++◌, length, map, take, drop, replicate, ℤ, pos, slice_index_or, Option, Some, None}
use Rattle.std.specs.List.{list_all, list_any}
use Rattle.int_rows.specs.declared.row.Aff.{Aff}
use Rattle.nest_tree.specs.declared.kernel.KernelRow.{KernelRow}
use Rattle.nest_tree.specs.declared.kernel.Nest.{Nest}
use Rattle.nest_tree.specs.declared.kernel.Term.{Term}
use Rattle.nest_tree.specs.declared.body.Access.{Access}
use Rattle.nest_tree.specs.declared.body.Body.TheVariants.{At}
use Rattle.c_tree.specs.declared.statement.How.TheVariants.{Write}
use Rattle.nest_core.specs.Shapes.{is_row_over}
use Rattle.datacopy.specs.declared.narrow.Narrow.{Narrow}
use Rattle.datacopy.specs.declared.side.Side.{Side}
use Rattle.datacopy.specs.Levels.{names_from, names_term}

-- how many terms an array's first cell is
abbrev pub further : Option (List ℕ) → ℕ
further (Some name) = 1
further None = 0

-- the outer levels and those of the box
abbrev pub depth_of : Narrow → ℕ
depth_of w = w.outer + w.dims

abbrev pub terms_of : Narrow → ℕ
terms_of w = length w.terms + further w.count

-- how many variables the copying statement has, and how many the other
abbrev pub new_vars : Narrow → ℕ
new_vars w = w.params + depth_of w + terms_of w

abbrev pub old_vars : Narrow → ℕ
old_vars w = w.params + w.levels + w.old_terms

-- ---- the terms that are needed

-- the row names outer levels alone
abbrev pub is_outer : ℕ → Nest → ℕ → KernelRow → Bool
is_outer params n place r = not (names_from params n place r.row.form)

-- a row on outer levels names the term
abbrev pub is_in_rows : ℕ → Nest → ℕ → ℕ → List KernelRow → Bool
is_in_rows params n place t rows = list_any (λ (r : KernelRow). is_outer params n place r && names_term params n t r.row.form) rows

-- a base names the term
abbrev pub is_in_bases : ℕ → Nest → ℕ → List Side → Bool
is_in_bases params n t sides = list_any (λ (s : Side). names_term params n t s.base) sides

-- of the first so many terms those that rows on outer levels or bases name
abbrev pub needed_terms : ℕ → Nest → ℕ → List Side → ℕ → List ℕ
needed_terms params n place sides zero = []
needed_terms params n place sides (suc t) =
    cond (is_in_rows params n place t n.rows || is_in_bases params n t sides) (needed_terms params n place sides t ++ t ∷ []) (needed_terms params n place sides t)

abbrev pub narrow_of : ℕ → Nest → ℕ → List Side → Option (List ℕ) → Narrow
narrow_of params n place sides count = record {
  params = params;
  outer = place;
  levels = length n.levels;
  old_terms = length n.terms;
  dims = length sides;
  terms = needed_terms params n place sides (length n.terms);
  count = count;
}

-- ---- forms over the new variables

abbrev pub number_of : List ℤ → ℕ → ℤ
number_of zs place = slice_index_or zs place (pos 0)

-- a form that names no inner level
abbrev pub narrowed : Narrow → Aff → Aff
narrowed w f = record {
  coefs = ((take (w.params + w.outer) f.coefs ++ replicate w.dims (pos 0)) ++ map (number_of (drop (w.params + w.levels) f.coefs)) w.terms) ++ replicate (further w.count) (pos 0);
  constant = f.constant;
}

-- a form of the first so many variables
abbrev pub widened : Narrow → ℕ → Aff → Aff
widened w known f = record { coefs = take known f.coefs ++ replicate (new_vars w - known) (pos 0); constant = f.constant }

-- the outer levels and the needed terms are some of the statement's
pub record IsNarrow (w : Narrow) : Type 0 where
  pub outer : w.outer ≤ w.levels
  pub depth : depth_of w ≤ 8
  pub room : new_vars w < 2 ^ 64
  pub terms : IsTrue (list_all (λ t. nat_lt t w.old_terms) w.terms)

abbrev pub AreRows : Narrow → List KernelRow → Type 0
AreRows w rows = IsTrue (list_all (is_row_over (new_vars w) (depth_of w)) rows)

-- they are those of a copying statement before this one
pub record Suits (p : ℕ) (n : Nest) (place d : ℕ) (c : Option (List ℕ)) (w : Narrow) : Type 0 where
  pub params : w.params ≡ p
  pub outer : w.outer ≡ place
  pub levels : w.levels ≡ length n.levels
  pub terms : w.old_terms ≡ length n.terms
  pub dims : w.dims ≡ d
  pub count : w.count ≡ c

-- the copying statement is made of these parts
pub record IsCopying (w : Narrow) (rs : List KernelRow) (ts : List Term) (to from : Access) (ps : List ℕ) (n : Nest) : Type 0 where
  pub levels : length n.levels ≡ depth_of w
  pub positions : n.positions ≡ ps
  pub terms : n.terms ≡ ts
  pub rows : n.rows ≡ rs
  pub target : n.target ≡ to
  pub how : n.how ≡ Write
  pub value : n.value ≡ At from
  pub whole : n.whole ≡ None
