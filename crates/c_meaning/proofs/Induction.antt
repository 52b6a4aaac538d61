-- Induction on statements.
use Rattle.std.proofs.Common.{sym, List, [], ◌∷◌, map, subst}
use Rattle.std.specs.List.{AllByRecursion}
use Rattle.c_tree.specs.declared.index.Cell.{Cell}
use Rattle.c_tree.specs.declared.index.Index.{Index}
use Rattle.c_tree.specs.declared.program.Kind.{Kind}
use Rattle.c_tree.specs.declared.data.Expr.{Expr}
use Rattle.c_tree.specs.declared.statement.How.{How}
use Rattle.c_tree.specs.declared.statement.Test.{Test}
use Rattle.c_tree.specs.declared.statement.Stmt.{Stmt, Stmt-F, ind-Stmt, map-Stmt, roll-Stmt}
use Rattle.c_tree.specs.declared.statement.Stmt.TheOpen as layer
use Rattle.c_tree.specs.declared.statement.Stmt.TheVariants.{For, If, Assign, Put, Declare, Grow, rolls-For, rolls-If, rolls-Assign, rolls-Put, rolls-Declare, rolls-Grow}
use Rattle.c_meaning.specs.Names.{Name}

each_of : {A : Type 0} (P : Stmt → Type 0) (f : A → Stmt) (g : (a : A) → P (f a)) (xs : List A) → AllByRecursion P (map f xs)
each_of P f g [] = tt
each_of P f g (x ∷ xs) = (g x, each_of P f g xs)

-- what is to be shown at each kind of statement
pub record Cases (P : Stmt → Type 0) : Type 0 where
  pub loop : (x : Name) (low high : Index) (body : List Stmt) → AllByRecursion P body → P (For x low high body)
  pub guard : (tests : List Test) (body : List Stmt) → AllByRecursion P body → P (If tests body)
  pub assignment : (target : Cell) (how : How) (value : Expr) → P (Assign target how value)
  pub index_assignment : (target : Cell) (value : Index) → P (Put target value)
  pub declaration : (name : Name) (kind : Kind) (inner : List Index) → P (Declare name kind inner)
  pub growth : (name : Name) (by : Index) → P (Grow name by)

layer_of : {A : Type 0} (P : Stmt → Type 0) → Cases P → (f : A → Stmt) (g : (a : A) → P (f a)) (y : Stmt-F A) → P (roll-Stmt (map-Stmt A Stmt f y))
layer_of P cases f g (layer.For x low high body) = subst P (sym (rolls-For x low high _)) (cases.loop x low high _ (each_of P f g body))
layer_of P cases f g (layer.If tests body) = subst P (sym (rolls-If tests _)) (cases.guard tests _ (each_of P f g body))
layer_of P cases f g (layer.Assign target how value) = subst P (sym (rolls-Assign target how value)) (cases.assignment target how value)
layer_of P cases f g (layer.Put target value) = subst P (sym (rolls-Put target value)) (cases.index_assignment target value)
layer_of P cases f g (layer.Declare name kind inner) = subst P (sym (rolls-Declare name kind inner)) (cases.declaration name kind inner)
layer_of P cases f g (layer.Grow name by) = subst P (sym (rolls-Grow name by)) (cases.growth name by)

-- a fact of each statement
pub induct : (P : Stmt → Type 0) → Cases P → (t : Stmt) → P t
induct P cases = ind-Stmt P (λ x y e. subst (λ d. P (roll-Stmt d)) e (layer_of P cases (λ e. e.0) (λ e. e.1) y))

-- and of each statement of a list
pub induct_all : (P : Stmt → Type 0) → Cases P → (ts : List Stmt) → AllByRecursion P ts
induct_all P cases [] = tt
induct_all P cases (t ∷ ts) = (induct P cases t, induct_all P cases ts)
