-- The reads that are found wherever a run comes.
use Rattle.std.specs.Prelude.{◌≡◌, ℤ, true, false, bytes_eq, List, [], ◌∷◌, ◌++◌, Ok, Some}
use Rattle.std.specs.List.{list_any, AllByRecursion}
use Rattle.c_tree.specs.declared.program.Matrix.{Matrix}
use Rattle.c_tree.specs.declared.statement.Test.{Test}
use Rattle.c_meaning.specs.Names.{Name, line}
use Rattle.c_meaning.specs.Value.{Sight, value_of, cell_seen}
use Rattle.c_meaning.specs.Listing.{Scene}
use Rattle.nest_tree.specs.Loops.{Levels}
use Rattle.nest_tree.specs.Lists.{IsIn}
use Rattle.nest_laws.specs.Trees.{bind_all, IsFine}
use Rattle.executors.specs.Executors.{Executor, done, idle, assign, loop, guard}
use Rattle.acceptance.specs.Affine.{Mention, mentions}
use Rattle.acceptance.specs.Around.{loop_names, around_expressions, cells_of, subscripts_of}
use Rattle.acceptance.specs.Expressions.{Expression, plain, index_of}
use Rattle.acceptance.specs.Visits.{Asked, bounds, test, assignment, Visit, Spot, visits}
use Rattle.executor_laws.specs.Trees.{tree_from}
use Rattle.acceptance_laws.specs.Reached.{Reached, AskedIsFine}
use Rattle.acceptance_laws.specs.Formed.{is_in_scope}

-- a term whose subscript has a value, at which it finds its cell
pub record IsSeen (s : Sight) (m : Mention) : Type 0 where
  pub at : ℤ
  pub is : value_of (index_of m.at) s ≡ Ok at
  pub cell : ℤ
  pub found : cell_seen s m.array (line at) ≡ Some cell

abbrev pub AreSeen : List Matrix → Sight → Expression → Type 0
AreSeen ms s e = AllByRecursion (IsSeen s) (mentions ms e)

-- the terms in a loop's bounds, or in a test
abbrev pub AskedIsSeen : List Matrix → Sight → Asked → Type 0
AskedIsSeen ms s (bounds x low high) = AreSeen ms s (plain low) × AreSeen ms s (plain high)
AskedIsSeen ms s (test t) = AreSeen ms s (plain t.left) × AreSeen ms s (plain t.right)
AskedIsSeen ms s (assignment target how value) = Unit

-- wherever the run comes and the terms around are found, it is fine and its own terms are found
abbrev pub VisitIsSafe : List Matrix → Scene → Visit → Type 0
VisitIsSafe ms c v =
    (e : Levels) → Reached v.around c e → AllByRecursion (AreSeen ms (bind_all (loop_names v.around) e c).sight) (around_expressions v.around)
    → AskedIsFine v.asked (bind_all (loop_names v.around) e c) × AskedIsSeen ms (bind_all (loop_names v.around) e c).sight v.asked

abbrev pub IsInScope : List Name → Expression → Type 0
IsInScope front e = is_in_scope front e ≡ true

abbrev pub AreTestsScoped : List Name → List Test → Type 0
AreTestsScoped front [] = Unit
AreTestsScoped front (t ∷ ts) = IsInScope front (plain t.left) × IsInScope front (plain t.right) × AreTestsScoped front ts

-- bounds, tests and subscripts name only what is in scope, and no loop variable is in scope before
abbrev pub IsExecutorScoped : List Name → Executor → Type 0
IsExecutorScoped front done = Unit
IsExecutorScoped front (idle rest) = IsExecutorScoped front rest
IsExecutorScoped front (assign target how value rest) = AllByRecursion (IsInScope front) (subscripts_of (target ∷ cells_of value)) × IsExecutorScoped front rest
IsExecutorScoped front (loop x low high body rest) =
    IsInScope front (plain low) × IsInScope front (plain high) × (list_any (λ y. bytes_eq y x) front ≡ false) × IsExecutorScoped (front ++ x ∷ []) body × IsExecutorScoped front rest
IsExecutorScoped front (guard tests body rest) = AreTestsScoped front tests × IsExecutorScoped front body × IsExecutorScoped front rest

abbrev pub SafeIsFine : Type 0
SafeIsFine =
    (ms : List Matrix) (x : Executor) (s : Spot) (c : Scene) (e : Levels) (front : List Name) → IsExecutorScoped front x → AllByRecursion (IsInScope front) (around_expressions s.around)
    → ((v : Visit) → IsIn v (visits x s) → VisitIsSafe ms c v) → Reached s.around c e → AllByRecursion (AreSeen ms (bind_all (loop_names s.around) e c).sight) (around_expressions s.around) → IsFine (tree_from x c (loop_names s.around)) e
