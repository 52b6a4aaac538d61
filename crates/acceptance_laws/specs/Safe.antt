-- Nothing in an accepted program's executor has a fault.
use Rattle.std.specs.Prelude.{◌≡◌, List, [], ◌∷◌, Ok}
use Rattle.std.specs.List.{AllByRecursion}
use Rattle.c_tree.specs.declared.index.Cell.{Cell}
use Rattle.c_tree.specs.declared.program.Program.{Program}
use Rattle.c_meaning.specs.Listing.{Scene}
use Rattle.nest_tree.specs.declared.kernel.Kernel.{Kernel}
use Rattle.nest_tree.specs.Lists.{IsIn}
use Rattle.nest_laws.specs.Trees.{tree_of, IsFine}
use Rattle.executors.specs.Executors.{executor_of}
use Rattle.acceptance.specs.Visits.{Asked, bounds, test, assignment, Visit}
use Rattle.acceptance.specs.Around.{cells_of}
use Rattle.acceptance.specs.Accepted.{accepted, asked_in}
use Rattle.acceptance_laws.specs.Formed.{AreApart}
use Rattle.acceptance_laws.specs.Seen.{IsExecutorScoped}
use Rattle.acceptance_laws.specs.Scene.{IsSceneOf, HasExtents}

-- the cells of an assignment
abbrev pub cells_asked : Asked → List Cell
cells_asked (bounds x low high) = []
cells_asked (test t) = []
cells_asked (assignment target how value) = target ∷ cells_of value

-- the names of a program's executor are in scope and apart, and its cells have as many subscripts as their arrays have extents
pub record IsNamed (p : Program) (c : Scene) : Type 0 where
  pub params : AreApart p.params
  pub scoped : IsExecutorScoped p.params (executor_of p.executor)
  pub cells : (v : Visit) → IsIn v (asked_in p) → AllByRecursion (HasExtents p c) (cells_asked v.asked)

-- an accepted program reaches no fault in a scene that keeps the ranges of its signature
abbrev pub AcceptedIsFine : Type 0
AcceptedIsFine = (p : Program) (k : Kernel) (c : Scene) → accepted p ≡ Ok k → IsNamed p c → IsSceneOf p c → IsFine (tree_of p.executor c) []
