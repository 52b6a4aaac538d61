-- The first name of an expression, in reading order, at which it doesn't keep a rule.
use Rattle.std.specs.Prelude.{ℕ, ◌==◌, Bool, true, false, if◌then◌else◌, List, Option, Some, None}
use Rattle.std.specs.Option.{option_or}
use Rattle.c_tree.specs.declared.program.Kind.{Kind}
use Rattle.c_tree.specs.declared.program.Kind.TheVariants as kind
use Rattle.c_tree.specs.declared.index.Index.{Index, fold-Index}
use Rattle.c_tree.specs.declared.index.Cell.{Cell, fold-Cell}
use Rattle.c_tree.specs.declared.index.Subscripts.{Subscripts, fold-Subscripts}
use Rattle.c_tree.specs.declared.index.Index.TheOpen.{Index-F, Const, Var, At, Neg, Plus, Minus, Times, Min, Max, Floor, Ceil, Cell-F, Subscripts-F, One, Two, Three}
use Rattle.c_tree.specs.declared.data.Expr.{Expr, fold-Expr}
use Rattle.c_tree.specs.declared.data.Expr.TheOpen as expr
use Rattle.c_judge.specs.declared.faults.NameWhy.TheVariants as why
use Rattle.c_judge.specs.declared.faults.ProgramFault.TheVariants as fault
use Rattle.c_judge.specs.declared.scope.Meaning.{Meaning}
use Rattle.c_judge.specs.declared.scope.Meaning.TheVariants as meaning
use Rattle.c_judge.specs.declared.uses.Rule.{Rule}
use Rattle.c_judge.specs.declared.uses.Rule.TheVariants as rule
use Rattle.c_judge.specs.Names.{Name, Names, find, Fault, because, first_of}

abbrev pub same_kind : Kind → Kind → Bool
same_kind kind.Number kind.Number = true
same_kind kind.Position kind.Position = true
same_kind _ _ = false

-- a name that stands for a number
abbrev pub number_fault : Name → Option Meaning → Fault
number_fault x None = because x why.Unknown
number_fault x (Some meaning.Value) = None
number_fault x (Some (meaning.Array k n g)) = because x why.Kind

-- as many subscripts as the array has extents
abbrev pub dims_fault : Name → ℕ → ℕ → Fault
dims_fault x extents subscripts = if extents == subscripts then None else because x why.Dims

-- an array of a kind, with so many subscripts
abbrev pub array_fault : Kind → Name → ℕ → Option Meaning → Fault
array_fault k x n None = because x why.Unknown
array_fault k x n (Some meaning.Value) = because x why.Kind
array_fault k x n (Some (meaning.Array found extents g)) = if same_kind found k then dims_fault x extents n else because x why.Kind

-- where a parameter alone may stand
abbrev pub no_array_fault : Name → Option Meaning → Fault
no_array_fault x None = because x why.Unknown
no_array_fault x (Some m) = because x why.Kind

abbrev pub changed_fault : Name → Option Meaning → Fault
changed_fault x None = None
changed_fault x (Some m) = Some (fault.Fixed x)

-- what is wrong with a name that stands for a number
abbrev pub value_fault : Rule → Names → Name → Fault
value_fault rule.InScope names x = number_fault x (find names x)
value_fault rule.Parameters names x = number_fault x (find names x)
value_fault rule.Unchanged names x = None

-- what is wrong with the name of a cell
abbrev pub cell_fault : Rule → Names → Kind → Name → ℕ → Fault
cell_fault rule.InScope names k x n = array_fault k x n (find names x)
cell_fault rule.Parameters names k x n = no_array_fault x (find names x)
cell_fault rule.Unchanged names k x n = changed_fault x (find names x)

-- of a cell's subscripts: how many there are, and their first fault
pub record Inside : Type 0 where
  pub count : ℕ
  pub fault : Fault

module _ (r : Rule) (names : Names) where
  abbrev pub subscripts_layer : Subscripts-F Fault Inside Fault → Inside
  subscripts_layer (One a) = record { count = 1; fault = a }
  subscripts_layer (Two a b) = record { count = 2; fault = option_or a b }
  subscripts_layer (Three a b c) = record { count = 3; fault = option_or a (option_or b c) }

  abbrev pub cell_layer : Cell-F Fault Inside Fault → Fault
  cell_layer c = option_or (cell_fault r names kind.Position c.array c.at.count) c.at.fault

  abbrev pub index_layer : Index-F Fault Inside Fault → Fault
  index_layer (Const n) = None
  index_layer (Var x) = value_fault r names x
  index_layer (At c) = c
  index_layer (Neg a) = a
  index_layer (Plus a b) = option_or a b
  index_layer (Minus a b) = option_or a b
  index_layer (Times n a) = a
  index_layer (Min a b) = option_or a b
  index_layer (Max a b) = option_or a b
  index_layer (Floor a d) = a
  index_layer (Ceil a d) = a

  -- the first fault of an index expression
  unfoldable pub index_fault : Index → Fault
  index_fault = fold-Index Fault Inside Fault index_layer subscripts_layer cell_layer

  unfoldable pub inside : Subscripts → Inside
  inside = fold-Subscripts Fault Inside Fault index_layer subscripts_layer cell_layer

  unfoldable pub index_cell_fault : Cell → Fault
  index_cell_fault = fold-Cell Fault Inside Fault index_layer subscripts_layer cell_layer

  abbrev pub data_cell_fault : Cell → Fault
  data_cell_fault c = option_or (cell_fault r names kind.Number c.array (inside c.at).count) (inside c.at).fault

  abbrev pub expr_layer : expr.Expr-F Fault → Fault
  expr_layer (expr.Const n) = None
  expr_layer (expr.At c) = data_cell_fault c
  expr_layer (expr.Plus a b) = option_or a b
  expr_layer (expr.Minus a b) = option_or a b
  expr_layer (expr.Times a b) = option_or a b

  -- the first fault of a data expression
  unfoldable pub expr_fault : Expr → Fault
  expr_fault = fold-Expr Fault expr_layer

  -- the first fault of index expressions
  abbrev pub indexes_fault : List Index → Fault
  indexes_fault = first_of index_fault
