-- Executors as plain data: each statement stands in front of those behind it.
use Rattle.std.specs.Prelude.{ℕ, suc, ◌+◌, List, [], ◌∷◌, map}
use Rattle.c_tree.specs.declared.index.Cell.{Cell}
use Rattle.c_tree.specs.declared.index.Index.{Index}
use Rattle.c_tree.specs.declared.data.Expr.{Expr}
use Rattle.c_tree.specs.declared.statement.How.{How}
use Rattle.c_tree.specs.declared.statement.Test.{Test}
use Rattle.c_tree.specs.declared.statement.Stmt.{Stmt, Stmt-F, fold-Stmt}
use Rattle.c_tree.specs.declared.statement.Stmt.TheOpen.{For, If, Assign, Put, Declare, Grow}
use Rattle.c_meaning.specs.Names.{Name}

-- children one after another; what an executor doesn't have is idle
pub data Executor : Type 0 where
  done : Executor
  idle : Executor → Executor
  assign : Cell → How → Expr → Executor → Executor
  loop : Name → Index → Index → Executor → Executor → Executor
  guard : List Test → Executor → Executor → Executor

abbrev pub InFront : Type 0
InFront = Executor → Executor

abbrev pub joined : List InFront → InFront
joined [] rest = rest
joined (f ∷ fs) rest = f (joined fs rest)

-- a statement put in front of others
abbrev pub layer : Stmt-F InFront → InFront
layer (For x low high body) rest = loop x low high (joined body done) rest
layer (If tests body) rest = guard tests (joined body done) rest
layer (Assign target how value) rest = assign target how value rest
layer (Put target value) rest = idle rest
layer (Declare name kind inner) rest = idle rest
layer (Grow name by) rest = idle rest

unfoldable pub in_front : Stmt → InFront
in_front = fold-Stmt InFront layer

-- the plain data of an executor's statements
abbrev pub executor_of : List Stmt → Executor
executor_of body = joined (map in_front body) done

-- how many child positions it takes
abbrev pub width : Executor → ℕ
width done = 0
width (idle rest) = suc (width rest)
width (assign target how value rest) = suc (width rest)
width (loop x low high body rest) = suc (width rest)
width (guard tests body rest) = width body + width rest

-- how many assignments it has
abbrev pub assignments : Executor → ℕ
assignments done = 0
assignments (idle rest) = assignments rest
assignments (assign target how value rest) = suc (assignments rest)
assignments (loop x low high body rest) = assignments body + assignments rest
assignments (guard tests body rest) = assignments body + assignments rest

-- the variables of the loops down to the first assignment
abbrev pub first_loops : Executor → List Name
first_loops done = []
first_loops (idle rest) = first_loops rest
first_loops (assign target how value rest) = []
first_loops (loop x low high body rest) = x ∷ first_loops body
first_loops (guard tests body rest) = first_loops body
