-- Executors.
use Rattle.std.specs.Prelude.{ℕ, zero, suc, ◌≤◌, Bool, true, false, ◌&&◌, List, [], ◌∷◌, length, IsTrue}
use Rattle.std.specs.List.{list_all}
use Rattle.c_tree.specs.declared.statement.Stmt.{Stmt, fold-Stmt}
use Rattle.c_tree.specs.declared.statement.Stmt.TheOpen.{Stmt-F, For, If, Assign, Put, Declare, Grow}
use Rattle.c_tree.specs.declared.program.Program.{Program}

-- a body has at least one statement, and in each so many loops may still be opened
abbrev pub is_body : List (ℕ → Bool) → ℕ → Bool
is_body [] loops = false
is_body (s ∷ ss) loops = s loops && list_all (λ t. t loops) ss

abbrev pub executor_layer : Stmt-F (ℕ → Bool) → ℕ → Bool
executor_layer (For x low high body) zero = false
executor_layer (For x low high body) (suc loops) = is_body body loops
executor_layer (If tests body) loops = is_body body loops
executor_layer (Assign target how value) loops = true
executor_layer (Put target value) loops = false
executor_layer (Declare x k inner) loops = false
executor_layer (Grow x by) loops = false

-- a loop, a guard or an assignment to data, in which at most so many loops stand around one place
unfoldable pub is_executed : Stmt → ℕ → Bool
is_executed = fold-Stmt (ℕ → Bool) executor_layer

-- such statements
abbrev pub are_executed : ℕ → List Stmt → Bool
are_executed loops = list_all (λ s. is_executed s loops)

-- the executor of a program: at least one such statement, with at most 8 loops around one place
pub record HasExecutor (p : Program) : Type 0 where
  pub some : 1 ≤ length p.executor
  pub executed : IsTrue (are_executed 8 p.executor)
