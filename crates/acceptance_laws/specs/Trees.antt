-- When nothing in a program's executor has a fault.
use Rattle.std.specs.Prelude.{◌≡◌, List, []}
use Rattle.c_tree.specs.declared.program.Program.{Program}
use Rattle.c_tree.specs.declared.statement.Stmt.{Stmt}
use Rattle.c_meaning.specs.Listing.{Scene}
use Rattle.nest_tree.specs.Lists.{IsIn}
use Rattle.nest_laws.specs.Trees.{tree_of, IsFine}
use Rattle.executors.specs.Executors.{executor_of}
use Rattle.acceptance.specs.Accepted.{asked_in}
use Rattle.acceptance.specs.Visits.{Visit}
use Rattle.executor_laws.specs.Trees.{tree_from}
use Rattle.acceptance_laws.specs.Seen.{IsExecutorScoped, VisitIsSafe}

-- where all that acceptance judges is safe, nothing in the program's executor has a fault
abbrev pub SafeExecutorIsFine : Type 0
SafeExecutorIsFine = (p : Program) (c : Scene) → IsExecutorScoped p.params (executor_of p.executor) → ((v : Visit) → IsIn v (asked_in p) → VisitIsSafe p.matrices c v) → IsFine (tree_of p.executor c) []
