-- The rows of what stands around, and the terms, cells and right sides of a statement.
use Rattle.std.specs.Prelude.{ℕ, suc, ◌+◌, pos, Bool, true, false, List, [], ◌∷◌, ◌++◌, map, length}
use Rattle.c_tree.specs.declared.index.Cell.{Cell}
use Rattle.c_tree.specs.declared.data.Expr.{Expr, fold-Expr}
use Rattle.c_tree.specs.declared.data.Expr.TheOpen as expr
use Rattle.c_tree.specs.declared.data.Expr.TheOpen.{Expr-F}
use Rattle.c_tree.specs.declared.statement.Cmp.{Cmp}
use Rattle.c_tree.specs.declared.statement.Cmp.TheVariants.{Less, AtMost, More, AtLeast, Same}
use Rattle.c_tree.specs.declared.statement.Test.{Test}
use Rattle.int_rows.specs.declared.row.Aff.{Aff}
use Rattle.nest_tree.specs.declared.body.Access.{Access}
use Rattle.nest_tree.specs.declared.body.Body.{Body}
use Rattle.nest_tree.specs.declared.body.Body.TheVariants as body
use Rattle.nest_tree.specs.declared.kernel.KernelRow.{KernelRow}
use Rattle.nest_tree.specs.declared.kernel.Term.{Term}
use Rattle.nest_tree.specs.Forms.{less, number, variable}
use Rattle.nest_systems.specs.Begun.{widened}
use Rattle.source_limits.specs.declared.reads.Read.{Read}
use Rattle.acceptance.specs.Expressions.{plain, plains}
use Rattle.acceptance.specs.Affine.{lowers, uppers}
use Rattle.acceptance.specs.Forms.{Vars, form}
use Rattle.acceptance.specs.Visits.{Passed, looped, tested}

-- a form is at least 0, as a row with an own level
abbrev pub at_least_zero : ℕ → Aff → KernelRow
at_least_zero own f = record { row = record { equal = false; form = f }; own = own }

abbrev pub one_less : Aff → Aff
one_less f = less f (number (pos 1))

abbrev pub is_same : Cmp → Bool
is_same Same = true
is_same Less = false
is_same AtMost = false
is_same More = false
is_same AtLeast = false

-- what a test says is at least 0, or 0
abbrev pub test_form : Cmp → Aff → Aff → Aff
test_form Less a b = one_less (less b a)
test_form AtMost a b = less b a
test_form More a b = one_less (less a b)
test_form AtLeast a b = less a b
test_form Same a b = less a b

-- the row of a test
abbrev pub test_row : Vars → Test → KernelRow
test_row v t = record { row = record { equal = is_same t.cmp; form = test_form t.cmp (form (plain t.left) v) (form (plain t.right) v) }; own = 0 }

-- the rows of what stands around, behind so many parameters and levels: those of a loop's lower bound, then those of its upper bound
abbrev pub rows_in : ℕ → Vars → ℕ → List Passed → List KernelRow
rows_in params v levels [] = []
rows_in params v levels (looped x low high ∷ ps) =
    map (λ o. at_least_zero (suc levels) (less (variable (params + levels)) (form o v))) (lowers (plain low))
    ++ (map (λ o. at_least_zero (suc levels) (one_less (less (form o v) (variable (params + levels))))) (uppers (plain high)) ++ rows_in params v (suc levels) ps)
rows_in params v levels (tested t ∷ ps) = test_row v t ∷ rows_in params v levels ps

abbrev pub vars_count : Vars → ℕ
vars_count v = length v.names + length v.reads

-- a read as a term
abbrev pub term_of : Vars → Read → Term
term_of v r = record { array = r.array; at = widened (vars_count v) r.at ∷ [] }

abbrev pub terms_of : Vars → List Term
terms_of v = map (term_of v) v.reads

-- a cell as an access
abbrev pub access_of : Vars → Cell → Access
access_of v c = record { array = c.array; at = map (λ e. form e v) (plains c.at) }

abbrev pub body_layer : Vars → Expr-F Body → Body
body_layer v (expr.Const n) = body.Const n
body_layer v (expr.At c) = body.At (access_of v c)
body_layer v (expr.Plus a b) = body.Plus a b
body_layer v (expr.Minus a b) = body.Minus a b
body_layer v (expr.Times a b) = body.Times a b

-- a right side as a body
unfoldable pub body_of : Vars → Expr → Body
body_of v = fold-Expr Body (body_layer v)
