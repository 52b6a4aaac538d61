-- The left side of a data expression: its left part, the left part of that, and so on. What stands in its text before and
-- behind each of them.
use Rattle.std.specs.Prelude.{ℕ, zero, suc, ◌+◌, [], ◌++◌, codes}
use Rattle.c_tree.specs.declared.index.Cell.{Cell}
use Rattle.c_tree.specs.declared.data.Expr.{Expr, out-Expr}
use Rattle.c_tree.specs.declared.data.Expr.TheOpen.{Expr-F, Const, At, Plus, Minus, Times}
use Rattle.c_print.specs.declared.level.Level.{Level}
use Rattle.c_print.specs.declared.level.Level.TheVariants.{Sum, Product, Atom}
use Rattle.c_print.specs.Printed.{Text, as_part, as_factor}
use Rattle.c_print.specs.Data.{data_printed}

abbrev pub level_layer : Expr-F Expr → Level
level_layer (Const n) = Atom
level_layer (At c) = Atom
level_layer (Plus a b) = Sum
level_layer (Minus a b) = Sum
level_layer (Times a b) = Product

-- what stands outermost
unfoldable pub level_of : Expr → Level
level_of e = level_layer (out-Expr e)

abbrev pub left_layer : Expr → Expr-F Expr → Expr
left_layer e (Const n) = e
left_layer e (At c) = e
left_layer e (Plus a b) = a
left_layer e (Minus a b) = a
left_layer e (Times a b) = a

-- the left part of an operation; an atom stays
unfoldable pub left_part : Expr → Expr
left_part e = left_layer e (out-Expr e)

-- a left factor is bracketed where it is a sum
abbrev pub opened_at : Level → ℕ
opened_at Sum = 1
opened_at Product = 0
opened_at Atom = 0

abbrev pub closed_at : Level → Text
closed_at Sum = codes ")"
closed_at Product = []
closed_at Atom = []

abbrev pub opened_layer : Expr-F Expr → ℕ
opened_layer (Const n) = 0
opened_layer (At c) = 0
opened_layer (Plus a b) = 0
opened_layer (Minus a b) = 0
opened_layer (Times a b) = opened_at (level_of a)

-- how many brackets open before the left part
unfoldable pub opened : Expr → ℕ
opened e = opened_layer (out-Expr e)

abbrev pub link_layer : (Cell → Text) → Expr-F Expr → Text
link_layer cell (Const n) = []
link_layer cell (At c) = []
link_layer cell (Plus a b) = codes " + " ++ (as_part (data_printed cell b)).text
link_layer cell (Minus a b) = codes " - " ++ (as_part (data_printed cell b)).text
link_layer cell (Times a b) = closed_at (level_of a) ++ codes " * " ++ (as_factor (data_printed cell b)).text

-- what stands behind the left part
unfoldable pub link : (Cell → Text) → Expr → Text
link cell e = link_layer cell (out-Expr e)

-- the part so many steps down the left side
abbrev pub down : Expr → ℕ → Expr
down e zero = e
down e (suc k) = left_part (down e k)

-- how many brackets open before it
abbrev pub opened_down : Expr → ℕ → ℕ
opened_down e zero = 0
opened_down e (suc k) = opened_down e k + opened (down e k)

-- what stands behind it
abbrev pub behind : (Cell → Text) → Expr → ℕ → Text
behind cell e zero = []
behind cell e (suc k) = link cell (down e k) ++ behind cell e k

-- so many brackets that open
abbrev pub opening : ℕ → Text
opening zero = []
opening (suc n) = codes "(" ++ opening n
