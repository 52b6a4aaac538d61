-- Extents and upper bounds of the first form.
use Rattle.std.specs.Prelude.{ℕ, ◌^◌, nat_le, Bool, true, false, if◌then◌else◌, List, [], ◌∷◌, ℤ, pos, negsuc, Option, Some, None, is_some, bytes_eq}
use Rattle.std.specs.Ordering.{int_eq}
use Rattle.c_tree.specs.declared.index.Index.{Index, out-Index}
use Rattle.c_tree.specs.declared.index.Index.TheVariants.{Const, Var}
use Rattle.c_tree.specs.declared.index.Cell.{Cell}
use Rattle.c_tree.specs.declared.index.Subscripts.{Subscripts}
use Rattle.c_tree.specs.declared.index.Index.TheOpen as open_index
use Rattle.first_form.specs.declared.size.Size.{Size}
use Rattle.first_form.specs.declared.size.Size.TheVariants.{Param, Number}

abbrev pub Name : Type 0
Name = List ℕ

abbrev pub has_name : List Name → Name → Bool
has_name [] x = false
has_name (y ∷ ys) x = if bytes_eq y x then true else has_name ys x

abbrev pub number_size : ℤ → Option Size
number_size (pos n) = if nat_le n (2 ^ 31) then Some (Number (pos n)) else None
number_size (negsuc n) = None

abbrev pub param_size : List Name → Name → Option Size
param_size params x = if has_name params x then Some (Param x) else None

abbrev pub size_layer : List Name → open_index.Index-F Index Subscripts Cell → Option Size
size_layer params (open_index.Var x) = param_size params x
size_layer params (open_index.Const n) = number_size n
size_layer params _ = None

-- the size that an expression is: a parameter, or a number of at most 2^31
abbrev pub size_of : List Name → Index → Option Size
size_of params e = size_layer params (out-Index e)

abbrev pub is_size : List Name → Index → Bool
is_size params e = is_some (size_of params e)

-- a size as an expression
abbrev pub expression_of : Size → Index
expression_of (Param x) = Var x
expression_of (Number n) = Const n

abbrev pub same_layer : Size → open_index.Index-F Index Subscripts Cell → Bool
same_layer (Param x) (open_index.Var y) = bytes_eq x y
same_layer (Number m) (open_index.Const n) = int_eq m n
same_layer _ _ = false

-- the expression is that size
abbrev pub is_same : Size → Index → Bool
is_same size e = same_layer size (out-Index e)

abbrev pub zero_layer : open_index.Index-F Index Subscripts Cell → Bool
zero_layer (open_index.Const n) = int_eq n (pos 0)
zero_layer _ = false

-- the number 0
abbrev pub is_zero : Index → Bool
is_zero e = zero_layer (out-Index e)
