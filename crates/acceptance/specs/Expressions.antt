-- Index expressions as plain data.
use Rattle.std.specs.Prelude.{ℤ, pos, List, [], ◌∷◌}
use Rattle.c_tree.specs.declared.index.Index.{Index, fold-Index}
use Rattle.c_tree.specs.declared.index.Subscripts.{Subscripts, fold-Subscripts}
use Rattle.c_tree.specs.declared.index.Cell.{Cell, fold-Cell}
use Rattle.c_tree.specs.declared.index.Index.TheOpen.{Index-F, Const, Var, At, Neg, Plus, Minus, Times, Min, Max, Floor, Ceil, Cell-F, Subscripts-F, One, Two, Three}
use Rattle.c_tree.specs.declared.index.Index.TheVariants as tree
use Rattle.c_tree.specs.declared.index.Subscripts.TheVariants as subs
use Rattle.c_meaning.specs.Names.{Name}

pub data Expression : Type 0 where
  number : ℤ → Expression
  name : Name → Expression
  one : Name → Expression → Expression
  two : Name → Expression → Expression → Expression
  three : Name → Expression → Expression → Expression → Expression
  negated : Expression → Expression
  plus : Expression → Expression → Expression
  minus : Expression → Expression → Expression
  times : ℤ → Expression → Expression
  lesser : Expression → Expression → Expression
  greater : Expression → Expression → Expression
  floor : Expression → ℤ → Expression
  ceil : Expression → ℤ → Expression

-- a read of an array at one to three subscripts
abbrev pub cell_of : Name → List Expression → Expression
cell_of a [] = number (pos 0)
cell_of a (e ∷ []) = one a e
cell_of a (e ∷ f ∷ []) = two a e f
cell_of a (e ∷ f ∷ g ∷ es) = three a e f g

abbrev pub index_layer : Index-F Expression (List Expression) Expression → Expression
index_layer (Const n) = number n
index_layer (Var x) = name x
index_layer (At c) = c
index_layer (Neg a) = negated a
index_layer (Plus a b) = plus a b
index_layer (Minus a b) = minus a b
index_layer (Times n a) = times n a
index_layer (Min a b) = lesser a b
index_layer (Max a b) = greater a b
index_layer (Floor a d) = floor a d
index_layer (Ceil a d) = ceil a d

abbrev pub subscripts_layer : Subscripts-F Expression (List Expression) Expression → List Expression
subscripts_layer (One a) = a ∷ []
subscripts_layer (Two a b) = a ∷ b ∷ []
subscripts_layer (Three a b c) = a ∷ b ∷ c ∷ []

abbrev pub cell_layer : Cell-F Expression (List Expression) Expression → Expression
cell_layer c = cell_of c.array c.at

-- an expression as plain data
unfoldable pub plain : Index → Expression
plain = fold-Index Expression (List Expression) Expression index_layer subscripts_layer cell_layer

-- the subscripts of a cell
unfoldable pub plains : Subscripts → List Expression
plains = fold-Subscripts Expression (List Expression) Expression index_layer subscripts_layer cell_layer

unfoldable pub plain_cell : Cell → Expression
plain_cell = fold-Cell Expression (List Expression) Expression index_layer subscripts_layer cell_layer

-- and back
abbrev pub index_of : Expression → Index
index_of (number n) = tree.Const n
index_of (name x) = tree.Var x
index_of (one a e) = tree.At (record { array = a; at = subs.One (index_of e) })
index_of (two a e f) = tree.At (record { array = a; at = subs.Two (index_of e) (index_of f) })
index_of (three a e f g) = tree.At (record { array = a; at = subs.Three (index_of e) (index_of f) (index_of g) })
index_of (negated e) = tree.Neg (index_of e)
index_of (plus e f) = tree.Plus (index_of e) (index_of f)
index_of (minus e f) = tree.Minus (index_of e) (index_of f)
index_of (times n e) = tree.Times n (index_of e)
index_of (lesser e f) = tree.Min (index_of e) (index_of f)
index_of (greater e f) = tree.Max (index_of e) (index_of f)
index_of (floor e d) = tree.Floor (index_of e) d
index_of (ceil e d) = tree.Ceil (index_of e) d
