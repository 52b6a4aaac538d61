-- The tree of an executor at each kind of statement.
use Rattle.std.proofs.Common.{◌≡◌, List, [], ◌∷◌, ◌++◌, map, ◌∙◌, ap}
use Rattle.c_tree.specs.declared.index.Cell.{Cell}
use Rattle.c_tree.specs.declared.index.Index.{Index}
use Rattle.c_tree.specs.declared.data.Expr.{Expr}
use Rattle.c_tree.specs.declared.statement.How.{How}
use Rattle.c_tree.specs.declared.statement.Test.{Test}
use Rattle.c_tree.specs.declared.statement.Stmt.{Stmt, Stmt-F, fold_out-Stmt, map-Stmt, out-Stmt}
use Rattle.c_tree.specs.declared.statement.Stmt.TheVariants.{For, If, Assign, outs-For, outs-If, outs-Assign}
use Rattle.c_meaning.specs.Names.{Name}
use Rattle.c_meaning.specs.Value.{value_of, all_hold}
use Rattle.c_meaning.specs.Listing.{Scene, assigned}
use Rattle.nest_laws.specs.Trees.{Tree, end, step, turns, when, bind_all, InFront, in_order, tree_layer, in_front}

front_at : (t : Stmt) (d : Stmt-F Stmt) → out-Stmt t ≡ d → in_front t ≡ tree_layer (map-Stmt Stmt InFront in_front d)
unfolding in_front
front_at t d h = fold_out-Stmt InFront tree_layer t ∙ ap (λ d. tree_layer (map-Stmt Stmt InFront in_front d)) h

module _ (c : Scene) (names : List Name) (rest : Tree) where
  pub front-For : (x : Name) (low high : Index) (body : List Stmt) → in_front (For x low high body) c names rest ≡ turns (λ e. value_of low (bind_all names e c).sight) (λ e. value_of high (bind_all names e c).sight) (in_order (map in_front body) c (names ++ x ∷ []) end) rest
  front-For x low high body = ap (λ f. f c names rest) (front_at (For x low high body) _ (outs-For x low high body))

  pub front-If : (tests : List Test) (body : List Stmt) → in_front (If tests body) c names rest ≡ when (λ e. all_hold tests (bind_all names e c).sight) (in_order (map in_front body) c names end) rest
  front-If tests body = ap (λ f. f c names rest) (front_at (If tests body) _ (outs-If tests body))

  pub front-Assign : (target : Cell) (how : How) (value : Expr) → in_front (Assign target how value) c names rest ≡ step (λ e. assigned target how value (bind_all names e c)) rest
  front-Assign target how value = ap (λ f. f c names rest) (front_at (Assign target how value) _ (outs-Assign target how value))
