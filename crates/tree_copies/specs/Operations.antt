-- A data expression as its leftmost operand and what is joined to it.
use Rattle.std.specs.Prelude.{ℕ, Bool, nat_lt, List}
use Rattle.c_tree.specs.declared.data.Expr.{Expr, size-Expr}
use Rattle.c_tree.specs.declared.data.Expr.TheVariants.{Const, At, Plus, Minus, Times}
use Rattle.tree_copies.specs.Chained.{chained}
use Rattle.tree_copies.specs.declared.data.Operation.{Operation}
use Rattle.tree_copies.specs.declared.data.Operation.TheVariants as operation
use Rattle.tree_copies.specs.declared.data.Leaf.{Leaf}
use Rattle.tree_copies.specs.declared.data.Leaf.TheVariants.{Number, Place}
use Rattle.tree_copies.specs.declared.data.Link.{Link}

abbrev pub applied : Operation → Expr → Expr → Expr
applied operation.Plus a b = Plus a b
applied operation.Minus a b = Minus a b
applied operation.Times a b = Times a b

abbrev pub leaf_expr : Leaf → Expr
leaf_expr (Number n) = Const n
leaf_expr (Place c) = At c.now

abbrev pub operation_of : Link → Operation
operation_of l = l.operation

abbrev pub right_of : Link → Expr
right_of l = l.right.now

-- an expression with what is joined to it, the last one first
abbrev pub linked : Expr → List Link → Expr
linked = chained applied operation_of right_of

abbrev pub is_smaller : ℕ → Link → Bool
is_smaller n l = nat_lt (size-Expr l.right.now) n
