-- A worked executor.
use Rattle.std.specs.Prelude.{◌≡◌, List, [], ◌∷◌, pos}
use Rattle.c_tree.specs.declared.index.Index.TheVariants.{Const, Var}
use Rattle.c_tree.specs.declared.data.Expr.TheVariants.{At as Load}
use Rattle.c_tree.specs.declared.statement.Cmp.TheVariants.{Less}
use Rattle.c_tree.specs.declared.statement.How.TheVariants.{Write}
use Rattle.c_tree.specs.declared.statement.Stmt.{Stmt}
use Rattle.c_tree.specs.declared.statement.Stmt.TheVariants.{For, If, Assign}
use Rattle.c_tree.specs.declared.statement.Test.{Test}
use Rattle.c_meaning.specs.Examples.{at, b, c, i, n}
use Rattle.executors.specs.Executors.{Executor, done, assign, loop, guard, executor_of}
use Rattle.executor_laws.specs.Sites.{Site, looped, guarded, sites_from, IsPlain}

-- 0 < i
abbrev pub behind_first : Test
behind_first = record { left = Const (pos 0); cmp = Less; right = Var i }

-- for (i = 0; i < n; i++) { c[i] = b[i]; if (0 < i) b[i] = c[i]; }
abbrev pub body : List Stmt
body = For i (Const (pos 0)) (Var n) (Assign (at c (Var i)) Write (Load (at b (Var i))) ∷ If (behind_first ∷ []) (Assign (at b (Var i)) Write (Load (at c (Var i))) ∷ []) ∷ []) ∷ []

abbrev pub plain_body : Executor
plain_body = loop i (Const (pos 0)) (Var n) (assign (at c (Var i)) Write (Load (at b (Var i))) (guard (behind_first ∷ []) (assign (at b (Var i)) Write (Load (at c (Var i))) done) done)) done

abbrev pub first_site : Site
first_site = record { positions = 0 ∷ 0 ∷ []; path = looped i (Const (pos 0)) (Var n) ∷ []; target = at c (Var i); how = Write; value = Load (at b (Var i)) }

abbrev pub second_site : Site
second_site = record { positions = 0 ∷ 1 ∷ []; path = looped i (Const (pos 0)) (Var n) ∷ guarded (behind_first ∷ []) ∷ []; target = at b (Var i); how = Write; value = Load (at c (Var i)) }

-- its plain data, which has nothing idle, and its two assignments: a guard takes no child position
abbrev pub WorkedExecutor : Type 0
WorkedExecutor = (executor_of body ≡ plain_body) × IsPlain plain_body × (sites_from plain_body 0 ≡ first_site ∷ second_site ∷ [])
