-- Which statements can be run.
use Rattle.std.specs.Prelude.{ℕ, suc, ◌^◌, Bool, true, false, ◌&&◌, ◌||◌, List, map, nat_le, nat_lt}
use Rattle.std.specs.List.{list_all}
use Rattle.c_tree.specs.declared.data.Expr.{Expr, fold-Expr}
use Rattle.c_tree.specs.declared.data.Expr.TheOpen.{Expr-F, Const, At, Plus, Minus, Times}
use Rattle.c_tree.specs.declared.statement.Stmt.{Stmt, para-Stmt}
use Rattle.c_tree.specs.declared.statement.Stmt.TheOpen.{Stmt-F, For, If, Assign, Put, Declare, Grow}
use Rattle.c_meaning.specs.Names.{Name}
use Rattle.c_meaning.specs.Scope.{Scope, Fit, fits, cell_fits, data_cell_fits, test_fits}
use Rattle.c_meaning.specs.Run.{part, widths}
use Rattle.c_walk.specs.State.{with_number}

abbrev pub data_layer : Expr-F Fit → Fit
data_layer (Const n) c = true
data_layer (At e) c = data_cell_fits e c
data_layer (Plus a b) c = a c && b c
data_layer (Minus a b) c = a c && b c
data_layer (Times a b) c = a c && b c

-- each data array of the expression is in the scope, and each subscript fits it
unfoldable pub data_fits : Expr → Fit
data_fits = fold-Expr Fit data_layer

-- the greatest number of child positions of a list, and of loops in one another
abbrev pub most_children : ℕ
most_children = 2 ^ 32

abbrev pub most_loops : ℕ
most_loops = 8

abbrev pub has_array : Name → Scope → Bool
has_array a c = nat_lt 0 (c.index_arrays a) || nat_lt 0 (c.data_arrays a)

abbrev pub ready_layer : Stmt-F (Stmt × (Scope → ℕ → Bool)) → Scope → ℕ → Bool
ready_layer (For x low high body) c d =
    (fits low c && fits high c) && ((nat_lt d most_loops && nat_le (widths (map (λ p. part p.0) body)) most_children) && list_all (λ p. p.1 (with_number x c) (suc d)) body)
ready_layer (If tests body) c d = list_all (λ t. test_fits t c) tests && list_all (λ p. p.1 c d) body
ready_layer (Assign target how value) c d = data_cell_fits target c && data_fits value c
ready_layer (Put target value) c d = cell_fits target c && fits value c
ready_layer (Declare name kind inner) c d = false
ready_layer (Grow name by) c d = has_array name c && fits by c

-- in d loops, the statement names what is in the scope, as it should, it stands in at most eight loops with its own, and
-- it has no declaration in it
unfoldable pub is_ready : Stmt → Scope → ℕ → Bool
is_ready = para-Stmt (Scope → ℕ → Bool) ready_layer

abbrev pub are_ready : List Stmt → Scope → ℕ → Bool
are_ready ts c d = list_all (λ t. is_ready t c d) ts
