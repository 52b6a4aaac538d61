-- How many round and square brackets stand around one place of an expression of a kernel, as it is printed.
use Rattle.std.specs.Prelude.{ℕ, zero, suc, ◌+◌, Bool, true, false, cond, not, ◌&&◌, ◌||◌, List, [], ◌∷◌, length, ℤ, Option, Some, None}
use Rattle.std.specs.List.{list_all}
use Rattle.int_rows.specs.declared.row.Aff.{Aff}
use Rattle.nest_tree.specs.declared.body.Access.{Access}
use Rattle.nest_tree.specs.declared.body.Body.{Body, fold-Body}
use Rattle.nest_tree.specs.declared.body.Body.TheOpen.{Body-F, Const as Const-F, At as At-F, Plus as Plus-F, Minus as Minus-F, Times as Times-F}
use Rattle.nest_tree.specs.declared.kernel.KernelRow.{KernelRow}
use Rattle.nest_tree.specs.declared.kernel.Nest.{Nest}
use Rattle.nest_tree.specs.declared.kernel.Term.{Term}
use Rattle.nest_core.specs.Terms.{held}
use Rattle.nest_limits.specs.declared.body.Level.{Level}
use Rattle.nest_limits.specs.declared.body.Level.TheVariants.{Atom, Sum, Product}

-- each term that is held passes the test; the terms are the variables from v on
abbrev pub all_held : (Term → Bool) → List ℤ → ℕ → List Term → Bool
all_held p cs v [] = true
all_held p cs v (t ∷ ts) = (not (held cs v) || p t) && all_held p cs (suc v) ts

-- the term has at most so many brackets around one place: its arguments stand in brackets, and in them those of the terms that they hold
abbrev pub term_fits : ℕ → List Term → ℕ → Term → Bool
term_fits first terms zero t = false
term_fits first terms (suc room) t = list_all (λ f. all_held (term_fits first terms room) f.coefs first terms) t.at

-- the form has: a sum is printed without brackets of its own
abbrev pub form_fits : ℕ → List Term → ℕ → Aff → Bool
form_fits first terms room f = all_held (term_fits first terms room) f.coefs first terms

-- the cell has: its subscripts stand in brackets
abbrev pub access_fits : ℕ → List Term → Access → ℕ → Bool
access_fits first terms a zero = false
access_fits first terms a (suc room) = list_all (form_fits first terms room) a.at

-- what stands in brackets
abbrev pub bracketed : (ℕ → Bool) → ℕ → Bool
bracketed fits zero = false
bracketed fits (suc room) = fits room

-- a printed right side: what it is, and whether it has at most so many brackets around one place
pub record Printed : Type 0 where
  pub level : Level
  pub fits : ℕ → Bool

abbrev pub is_sum : Level → Bool
is_sum Sum = true
is_sum Atom = false
is_sum Product = false

abbrev pub is_atom : Level → Bool
is_atom Atom = true
is_atom Sum = false
is_atom Product = false

-- a part, in brackets or not
abbrev pub part : Bool → (ℕ → Bool) → ℕ → Bool
part inside fits room = cond inside (bracketed fits room) (fits room)

-- the right part of a sum: a sum stands in brackets
abbrev pub summand_fits : Printed → ℕ → Bool
summand_fits p = part (is_sum p.level) p.fits

-- the right part of a product: all but a number or a cell stands in brackets
abbrev pub factor_fits : Printed → ℕ → Bool
factor_fits p = part (not (is_atom p.level)) p.fits

-- what is left for a left part, in brackets or not
abbrev pub left_room : Bool → ℕ → Option ℕ
left_room false room = Some room
left_room true zero = None
left_room true (suc room) = Some room

abbrev pub sum_fits : Printed → Printed → ℕ → Bool
sum_fits a b room = a.fits room && summand_fits b room

-- the left part of a product: a sum stands in brackets
abbrev pub product_fits : Printed → Printed → ℕ → Bool
product_fits a b room = part (is_sum a.level) a.fits room && factor_fits b room

abbrev pub printed_layer : ℕ → List Term → Body-F Printed → Printed
printed_layer first terms (Const-F c) = record { level = Atom; fits = λ room. true }
printed_layer first terms (At-F a) = record { level = Atom; fits = access_fits first terms a }
printed_layer first terms (Plus-F a b) = record { level = Sum; fits = sum_fits a b }
printed_layer first terms (Minus-F a b) = record { level = Sum; fits = sum_fits a b }
printed_layer first terms (Times-F a b) = record { level = Product; fits = product_fits a b }

unfoldable pub printed : ℕ → List Term → Body → Printed
printed first terms = fold-Body Printed (printed_layer first terms)

abbrev pub row_fits : ℕ → Nest → ℕ → KernelRow → Bool
row_fits params n room r = form_fits (params + length n.levels) n.terms room r.row.form

-- the rows, the subscripts and the right side of a statement have at most so many brackets around one place
unfoldable pub nest_fits : ℕ → ℕ → Nest → Bool
nest_fits params room n =
    list_all (row_fits params n room) n.rows
    && (list_all (form_fits (params + length n.levels) n.terms room) n.target.at && (printed (params + length n.levels) n.terms n.value).fits room)

-- all statements have at most 128
unfoldable pub are_within : ℕ → List Nest → Bool
are_within params ns = list_all (nest_fits params 128) ns
