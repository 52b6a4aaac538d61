-- What is shown at each kind of data expression holds of all.
use Rattle.std.proofs.Common.{ℕ, sym, subst}
use Rattle.c_tree.specs.declared.index.Cell.{Cell}
use Rattle.c_tree.specs.declared.data.Expr.{Expr, Expr-F, ind-Expr, map-Expr, roll-Expr}
use Rattle.c_tree.specs.declared.data.Expr.TheOpen as layer
use Rattle.c_tree.specs.declared.data.Expr.TheVariants.{Const, At, Plus, Minus, Times, rolls-Const, rolls-At, rolls-Plus, rolls-Minus, rolls-Times}

-- what is to be shown at each kind
pub record Cases (P : Expr → Type 0) : Type 0 where
  pub constant : (n : ℕ) → P (Const n)
  pub cell : (x : Cell) → P (At x)
  pub plus : (a b : Expr) → P a → P b → P (Plus a b)
  pub minus : (a b : Expr) → P a → P b → P (Minus a b)
  pub times : (a b : Expr) → P a → P b → P (Times a b)

layer_of : {A : Type 0} (P : Expr → Type 0) → Cases P → (f : A → Expr) (g : (a : A) → P (f a)) (y : Expr-F A) → P (roll-Expr (map-Expr A Expr f y))
layer_of P cases f g (layer.Const n) = subst P (sym (rolls-Const n)) (cases.constant n)
layer_of P cases f g (layer.At x) = subst P (sym (rolls-At x)) (cases.cell x)
layer_of P cases f g (layer.Plus a b) = subst P (sym (rolls-Plus (f a) (f b))) (cases.plus (f a) (f b) (g a) (g b))
layer_of P cases f g (layer.Minus a b) = subst P (sym (rolls-Minus (f a) (f b))) (cases.minus (f a) (f b) (g a) (g b))
layer_of P cases f g (layer.Times a b) = subst P (sym (rolls-Times (f a) (f b))) (cases.times (f a) (f b) (g a) (g b))

pub induct : (P : Expr → Type 0) → Cases P → (e : Expr) → P e
induct P cases = ind-Expr P (λ x y e. subst (λ d. P (roll-Expr d)) e (layer_of P cases (λ e. e.0) (λ e. e.1) y))
