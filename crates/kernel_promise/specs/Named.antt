-- What the statements of a kernel may name.
use Rattle.std.specs.Prelude.{◌≡◌, ◌⊎◌, ℕ, ◌<◌, ◌^◌, Bool, true, ◌&&◌, nat_lt, is_some, is_none, IsTrue, length}
use Rattle.c_tree.specs.declared.program.Array.{Array}
use Rattle.c_tree.specs.declared.program.Kind.TheVariants.{Number}
use Rattle.nest_tree.specs.declared.body.Access.{Access}
use Rattle.nest_tree.specs.declared.body.Body.{Body, fold-Body}
use Rattle.nest_tree.specs.declared.body.Body.TheOpen.{Body-F, Const, At, Plus, Minus, Times}
use Rattle.nest_tree.specs.declared.kernel.Kernel.{Kernel}
use Rattle.nest_tree.specs.declared.kernel.Nest.{Nest}
use Rattle.nest_tree.specs.declared.kernel.Term.{Term}
use Rattle.nest_tree.specs.Lists.{IsIn}
use Rattle.nest_tree.specs.Systems.{IsRead}
use Rattle.nest_systems.specs.Ranges.{value_span, argument_span}

-- the cells of a statement: its target, and those that its right side reads
abbrev pub IsCellOf : Nest → Access → Type 0
IsCellOf n a = (a ≡ n.target) ⊎ IsRead a n.value

-- the array of a term is an index array, of the signature or made by a command: its values have a range, and so have its arguments, of which it has as many as the term
pub record IsIndexRead (k : Kernel) (t : Term) : Type 0 where
  pub values : IsTrue (is_some (value_span k.head k.made t.array))
  pub arguments : (place : ℕ) → place < length t.at → IsTrue (is_some (argument_span k.head k.made t.array place))
  pub no_more : IsTrue (is_none (argument_span k.head k.made t.array (length t.at)))

-- the array of a cell is a data array of the signature, with as many extents as the cell has subscripts
pub record IsDataCell (k : Kernel) (a : Access) : Type 0 where
  pub array : Array
  pub is_in : IsIn array (k.head).arrays
  pub name : array.name ≡ a.array
  pub kind : array.kind ≡ Number
  pub extents : length array.extents ≡ length a.at

abbrev pub numbers_layer : Body-F Bool → Bool
numbers_layer (Const c) = nat_lt c (2 ^ 64)
numbers_layer (At a) = true
numbers_layer (Plus a b) = a && b
numbers_layer (Minus a b) = a && b
numbers_layer (Times a b) = a && b

-- each number of a right side is below 2^64
unfoldable pub has_data_numbers : Body → Bool
has_data_numbers = fold-Body Bool numbers_layer

-- a statement's terms read index arrays, its cells lie in data arrays, and its numbers are data
pub record NamesArrays (k : Kernel) (n : Nest) : Type 0 where
  pub terms : (t : Term) → IsIn t n.terms → IsIndexRead k t
  pub cells : (a : Access) → IsCellOf n a → IsDataCell k a
  pub numbers : IsTrue (has_data_numbers n.value)
