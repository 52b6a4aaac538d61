-- The tree of an executor, by its plain data.
use Rattle.std.specs.Prelude.{◌≡◌, List, [], ◌∷◌, ◌++◌}
use Rattle.c_tree.specs.declared.statement.Stmt.{Stmt}
use Rattle.c_meaning.specs.Names.{Name}
use Rattle.c_meaning.specs.Value.{value_of, all_hold}
use Rattle.c_meaning.specs.Listing.{Scene, assigned}
use Rattle.nest_laws.specs.Trees.{Tree, end, skip, step, turns, when, bind_all, tree_of}
use Rattle.executors.specs.Executors.{Executor, done, idle, assign, loop, guard, executor_of}

-- its tree, under the variables of the loops around
abbrev pub tree_from : Executor → Scene → List Name → Tree
tree_from done c names = end
tree_from (idle rest) c names = skip (tree_from rest c names)
tree_from (assign target how value rest) c names = step (λ e. assigned target how value (bind_all names e c)) (tree_from rest c names)
tree_from (loop x low high body rest) c names =
    turns (λ e. value_of low (bind_all names e c).sight) (λ e. value_of high (bind_all names e c).sight) (tree_from body c (names ++ x ∷ [])) (tree_from rest c names)
tree_from (guard tests body rest) c names = when (λ e. all_hold tests (bind_all names e c).sight) (tree_from body c names) (tree_from rest c names)

-- the tree of an executor is that of its plain data
abbrev pub TreeOfExecutor : Type 0
TreeOfExecutor = (body : List Stmt) (c : Scene) → tree_of body c ≡ tree_from (executor_of body) c []
