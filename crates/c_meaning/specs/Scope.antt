-- What names stand for, and which expressions fit that.
use Rattle.std.specs.Prelude.{ℕ, pos, Bool, true, ◌&&◌, nat_eq, int_le}
use Rattle.c_tree.specs.declared.index.Index.{Index, fold-Index}
use Rattle.c_tree.specs.declared.index.Cell.{Cell, fold-Cell}
use Rattle.c_tree.specs.declared.index.Subscripts.{Subscripts, fold-Subscripts}
use Rattle.c_tree.specs.declared.index.Index.TheOpen.{Index-F, Const, Var, At, Neg, Plus, Minus, Times, Min, Max, Floor, Ceil, Cell-F, Subscripts-F, One, Two, Three}
use Rattle.c_tree.specs.declared.statement.Test.{Test}
use Rattle.c_meaning.specs.Names.{Name}

-- parameters and loop variables, and how many extents an array has: 0 where there is no array
pub record Scope : Type 0 where
  pub numbers : Name → Bool
  pub index_arrays : Name → ℕ
  pub data_arrays : Name → ℕ

abbrev pub Fit : Type 0
Fit = Scope → Bool

-- as many subscripts as the array has extents
abbrev pub SubscriptsFit : Type 0
SubscriptsFit = Scope → ℕ → Bool

abbrev pub subscripts_fit_layer : Subscripts-F Fit SubscriptsFit Fit → SubscriptsFit
subscripts_fit_layer (One i) c n = nat_eq n 1 && i c
subscripts_fit_layer (Two i j) c n = nat_eq n 2 && (i c && j c)
subscripts_fit_layer (Three i j k) c n = nat_eq n 3 && (i c && (j c && k c))

abbrev pub cell_fit_layer : Cell-F Fit SubscriptsFit Fit → Fit
cell_fit_layer e c = e.at c (c.index_arrays e.array)

abbrev pub fit_layer : Index-F Fit SubscriptsFit Fit → Fit
fit_layer (Const n) c = true
fit_layer (Var x) c = c.numbers x
fit_layer (At e) c = e c
fit_layer (Neg a) c = a c
fit_layer (Plus a b) c = a c && b c
fit_layer (Minus a b) c = a c && b c
fit_layer (Times n a) c = a c
fit_layer (Min a b) c = a c && b c
fit_layer (Max a b) c = a c && b c
fit_layer (Floor a d) c = int_le (pos 1) d && a c
fit_layer (Ceil a d) c = int_le (pos 1) d && a c

-- each name and index array of the expression is in the scope, and each divisor is at least 1
unfoldable pub fits : Index → Fit
fits = fold-Index Fit SubscriptsFit Fit fit_layer subscripts_fit_layer cell_fit_layer

unfoldable pub subscripts_fit : Subscripts → SubscriptsFit
subscripts_fit = fold-Subscripts Fit SubscriptsFit Fit fit_layer subscripts_fit_layer cell_fit_layer

unfoldable pub cell_fits : Cell → Fit
cell_fits = fold-Cell Fit SubscriptsFit Fit fit_layer subscripts_fit_layer cell_fit_layer

-- a cell of a data array
abbrev pub data_cell_fits : Cell → Fit
data_cell_fits e c = subscripts_fit e.at c (c.data_arrays e.array)

abbrev pub test_fits : Test → Fit
test_fits t c = fits t.left c && fits t.right c
