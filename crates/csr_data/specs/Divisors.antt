-- Expressions whose divisors may divide.
use Rattle.std.specs.Prelude.{◌≡◌, pos, Bool, true, ◌&&◌, int_le, slice_get, Some, IsTrue, ℕ}
use Rattle.c_tree.specs.declared.index.Index.{Index, fold-Index}
use Rattle.c_tree.specs.declared.index.Index.TheOpen.{Index-F, Const, Var, At, Neg, Plus, Minus, Times, Min, Max, Floor, Ceil, Cell-F, Subscripts-F, One, Two, Three}
use Rattle.c_tree.specs.declared.program.Array.{Array}
use Rattle.c_tree.specs.declared.program.Program.{Program}

abbrev pub subscripts_layer : Subscripts-F Bool Bool Bool → Bool
subscripts_layer (One i) = i
subscripts_layer (Two i j) = i && j
subscripts_layer (Three i j k) = i && (j && k)

abbrev pub cell_layer : Cell-F Bool Bool Bool → Bool
cell_layer c = c.at

abbrev pub index_layer : Index-F Bool Bool Bool → Bool
index_layer (Const n) = true
index_layer (Var x) = true
index_layer (At c) = c
index_layer (Neg a) = a
index_layer (Plus a b) = a && b
index_layer (Minus a b) = a && b
index_layer (Times n a) = a
index_layer (Min a b) = a && b
index_layer (Max a b) = a && b
index_layer (Floor a d) = int_le (pos 1) d && a
index_layer (Ceil a d) = int_le (pos 1) d && a

-- each divisor is at least 1
unfoldable pub has_divisors : Index → Bool
has_divisors = fold-Index Bool Bool Bool index_layer subscripts_layer cell_layer

-- so it is in each extent
abbrev pub ExtentsHaveDivisors : Program → Type 0
ExtentsHaveDivisors p = (k : ℕ) (a : Array) → slice_get p.arrays k ≡ Some a → (j : ℕ) (e : Index) → slice_get a.extents j ≡ Some e → IsTrue (has_divisors e)
