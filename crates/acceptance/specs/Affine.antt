-- Which expressions are affine, the terms that they name, and the operands of bounds.
use Rattle.std.specs.Prelude.{Bool, true, false, ◌&&◌, cond, List, [], ◌∷◌, ◌++◌}
use Rattle.c_tree.specs.declared.program.Matrix.{Matrix}
use Rattle.c_meaning.specs.Names.{Name}
pub use Rattle.source_limits.specs.Matrices.{is_index_array}
use Rattle.acceptance.specs.Expressions.{Expression, number, name, one, two, three, negated, plus, minus, times, lesser, greater, floor, ceil}

-- a sum of multiples of names and of numbers
abbrev pub is_plain : Expression → Bool
is_plain (number n) = true
is_plain (name x) = true
is_plain (one a e) = false
is_plain (two a e f) = false
is_plain (three a e f g) = false
is_plain (negated e) = is_plain e
is_plain (plus e f) = is_plain e && is_plain f
is_plain (minus e f) = is_plain e && is_plain f
is_plain (times n e) = is_plain e
is_plain (lesser e f) = false
is_plain (greater e f) = false
is_plain (floor e d) = false
is_plain (ceil e d) = false

-- a term reads a matrix's `index` or `col` array at such a sum
abbrev pub is_term : List Matrix → Name → Expression → Bool
is_term ms a e = is_index_array ms a && is_plain e

-- a sum of multiples of names and terms, and of numbers
abbrev pub is_affine : List Matrix → Expression → Bool
is_affine ms (number n) = true
is_affine ms (name x) = true
is_affine ms (one a e) = is_term ms a e
is_affine ms (two a e f) = false
is_affine ms (three a e f g) = false
is_affine ms (negated e) = is_affine ms e
is_affine ms (plus e f) = is_affine ms e && is_affine ms f
is_affine ms (minus e f) = is_affine ms e && is_affine ms f
is_affine ms (times n e) = is_affine ms e
is_affine ms (lesser e f) = false
is_affine ms (greater e f) = false
is_affine ms (floor e d) = false
is_affine ms (ceil e d) = false

-- a term as the source names it
pub record Mention : Type 0 where
  pub array : Name
  pub at : Expression

-- the terms that an expression names, from the left
abbrev pub mentions : List Matrix → Expression → List Mention
mentions ms (number n) = []
mentions ms (name x) = []
mentions ms (one a e) = cond (is_term ms a e) (record { array = a; at = e } ∷ []) (mentions ms e)
mentions ms (two a e f) = mentions ms e ++ mentions ms f
mentions ms (three a e f g) = mentions ms e ++ (mentions ms f ++ mentions ms g)
mentions ms (negated e) = mentions ms e
mentions ms (plus e f) = mentions ms e ++ mentions ms f
mentions ms (minus e f) = mentions ms e ++ mentions ms f
mentions ms (times n e) = mentions ms e
mentions ms (lesser e f) = mentions ms e ++ mentions ms f
mentions ms (greater e f) = mentions ms e ++ mentions ms f
mentions ms (floor e d) = mentions ms e
mentions ms (ceil e d) = mentions ms e

-- the operands of a lower bound, from the left, and those of an upper bound
abbrev pub lowers : Expression → List Expression
lowers (greater e f) = lowers e ++ lowers f
lowers e = e ∷ []

abbrev pub uppers : Expression → List Expression
uppers (lesser e f) = uppers e ++ uppers f
uppers e = e ∷ []
