-- The tree of an executor is that of its plain data.
use Rattle.std.proofs.Common.{◌≡◌, List, [], ◌∷◌, ◌++◌, map, refl, sym, ◌∙◌, ap}
use Rattle.std.specs.List.{AllByRecursion}
use Rattle.c_tree.specs.declared.statement.Stmt.{Stmt, Stmt-F, fold_out-Stmt, map-Stmt, out-Stmt}
use Rattle.c_tree.specs.declared.statement.Stmt.TheVariants.{For, If, Assign, Put, Declare, Grow, outs-For, outs-If, outs-Assign, outs-Put, outs-Declare, outs-Grow}
use Rattle.c_meaning.specs.Names.{Name}
use Rattle.c_meaning.specs.Value.{value_of, all_hold}
use Rattle.c_meaning.specs.Listing.{Scene}
use Rattle.c_meaning.proofs.Induction.{induct_all}
use Rattle.nest_laws.specs.Trees.{Tree, turns, when, bind_all, in_order, tree_layer}
use Rattle.nest_laws.specs.Trees as trees
use Rattle.executors.specs.Executors.{Executor, done, joined, in_front}
use Rattle.executors.proofs.Equations.{front_at}
use Rattle.executor_laws.specs.Trees.{tree_from, TreeOfExecutor}

tree_at : (t : Stmt) (d : Stmt-F Stmt) → out-Stmt t ≡ d → trees.in_front t ≡ tree_layer (map-Stmt Stmt trees.InFront trees.in_front d)
unfolding trees.in_front
tree_at t d h = fold_out-Stmt trees.InFront tree_layer t ∙ ap (λ d. tree_layer (map-Stmt Stmt trees.InFront trees.in_front d)) h

-- a statement in front of others is the same in both
abbrev Same : Stmt → Type 0
Same t = (c : Scene) (names : List Name) (rest : Executor) → trees.in_front t c names (tree_from rest c names) ≡ tree_from (in_front t rest) c names

same_all : (body : List Stmt) → AllByRecursion Same body → (c : Scene) (names : List Name) (rest : Executor) → in_order (map trees.in_front body) c names (tree_from rest c names) ≡ tree_from (joined (map in_front body) rest) c names
same_all [] h c names rest = refl
same_all (t ∷ ts) h c names rest =
    ap (λ (u : Tree). trees.in_front t c names u) (same_all ts h.1 c names rest) ∙ h.0 c names (joined (map in_front ts) rest)

same : (body : List Stmt) → AllByRecursion Same body
same = induct_all Same (record {
  loop = λ x low high body h c names rest. (
      ap (λ f. f c names (tree_from rest c names)) (tree_at (For x low high body) _ (outs-For x low high body))
      ∙ ap (λ (b : Tree). turns (λ e. value_of low (bind_all names e c).sight) (λ e. value_of high (bind_all names e c).sight) b (tree_from rest c names)) (same_all body h c (names ++ x ∷ []) done)
      ∙ sym (ap (λ f. tree_from (f rest) c names) (front_at (For x low high body) _ (outs-For x low high body))));
  guard = λ tests body h c names rest. (
      ap (λ f. f c names (tree_from rest c names)) (tree_at (If tests body) _ (outs-If tests body))
      ∙ ap (λ (b : Tree). when (λ e. all_hold tests (bind_all names e c).sight) b (tree_from rest c names)) (same_all body h c names done)
      ∙ sym (ap (λ f. tree_from (f rest) c names) (front_at (If tests body) _ (outs-If tests body))));
  assignment = λ target how value c names rest. (
      ap (λ f. f c names (tree_from rest c names)) (tree_at (Assign target how value) _ (outs-Assign target how value))
      ∙ sym (ap (λ f. tree_from (f rest) c names) (front_at (Assign target how value) _ (outs-Assign target how value))));
  index_assignment = λ target value c names rest. (
      ap (λ f. f c names (tree_from rest c names)) (tree_at (Put target value) _ (outs-Put target value))
      ∙ sym (ap (λ f. tree_from (f rest) c names) (front_at (Put target value) _ (outs-Put target value))));
  declaration = λ name kind inner c names rest. (
      ap (λ f. f c names (tree_from rest c names)) (tree_at (Declare name kind inner) _ (outs-Declare name kind inner))
      ∙ sym (ap (λ f. tree_from (f rest) c names) (front_at (Declare name kind inner) _ (outs-Declare name kind inner))));
  growth = λ name by c names rest. (
      ap (λ f. f c names (tree_from rest c names)) (tree_at (Grow name by) _ (outs-Grow name by))
      ∙ sym (ap (λ f. tree_from (f rest) c names) (front_at (Grow name by) _ (outs-Grow name by))));
})

pub tree_is : TreeOfExecutor
tree_is body c = same_all body (same body) c [] done
