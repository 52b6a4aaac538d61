-- A right side as its leftmost operand and what is joined to it.
use Rattle.std.specs.Prelude.{ℕ, Bool, nat_lt, List, [], ◌∷◌}
use Rattle.nest_tree.specs.declared.body.Body.{Body, size-Body}
use Rattle.nest_tree.specs.declared.body.Body.TheVariants.{Const, At, Plus, Minus, Times}
use Rattle.nest_core.specs.declared.chain.Operation.{Operation}
use Rattle.nest_core.specs.declared.chain.Operation.TheVariants as operation
use Rattle.nest_core.specs.declared.chain.Leaf.{Leaf}
use Rattle.nest_core.specs.declared.chain.Leaf.TheVariants.{Number, Cell}
use Rattle.nest_core.specs.declared.chain.Link.{Link}

abbrev pub applied : Operation → Body → Body → Body
applied operation.Plus a b = Plus a b
applied operation.Minus a b = Minus a b
applied operation.Times a b = Times a b

abbrev pub leaf_body : Leaf → Body
leaf_body (Number n) = Const n
leaf_body (Cell a) = At a.now

-- a right side with what is joined to it, the last one first
abbrev pub linked : Body → List Link → Body
linked b [] = b
linked b (l ∷ ls) = applied l.operation (linked b ls) l.right.now

abbrev pub is_smaller : ℕ → Link → Bool
is_smaller n l = nat_lt (size-Body l.right.now) n
