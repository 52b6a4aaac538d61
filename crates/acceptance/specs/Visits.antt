-- What is judged in an executor, in the order of the text: the bounds of each loop, the tests of each guard, and each assignment.
use Rattle.std.specs.Prelude.{ℕ, ◌+◌, List, [], ◌∷◌, ◌++◌}
use Rattle.c_tree.specs.declared.index.Cell.{Cell}
use Rattle.c_tree.specs.declared.index.Index.{Index}
use Rattle.c_tree.specs.declared.data.Expr.{Expr}
use Rattle.c_tree.specs.declared.statement.How.{How}
use Rattle.c_tree.specs.declared.statement.Test.{Test}
use Rattle.c_meaning.specs.Names.{Name}
use Rattle.executors.specs.Executors.{Executor, done, idle, assign, loop, guard, width, assignments, first_loops}

-- what stands around a place: a loop, or a test that held
pub data Passed : Type 0 where
  looped : Name → Index → Index → Passed
  tested : Test → Passed

-- what is asked of: a loop's bounds, a guard's test, or an assignment
pub data Asked : Type 0 where
  bounds : Name → Index → Index → Asked
  test : Test → Asked
  assignment : Cell → How → Expr → Asked

-- a thing that is judged: what stands around, from the outside; the child positions; the number of the assignment, or of the first one inside; the loops from here down to that one
pub record Visit : Type 0 where
  pub around : List Passed
  pub positions : List ℕ
  pub number : ℕ
  pub inner : List Name
  pub asked : Asked

-- what stands around, the child positions of the loops there, the child position, and the number of the next assignment
pub record Spot : Type 0 where
  pub around : List Passed
  pub loops : List ℕ
  pub child : ℕ
  pub number : ℕ

-- a thing that is judged at a spot
abbrev pub visit : Spot → List Name → Asked → Visit
visit s inner asked = record { around = s.around; positions = s.loops ++ s.child ∷ []; number = s.number; inner = inner; asked = asked }

-- into a loop, past a test that holds, and past all tests of a guard
abbrev pub into : Name → Index → Index → Spot → Spot
into x low high s = record { around = s.around ++ looped x low high ∷ []; loops = s.loops ++ s.child ∷ []; child = 0; number = s.number }

abbrev pub past : Test → Spot → Spot
past t s = record { around = s.around ++ tested t ∷ []; loops = s.loops; child = s.child; number = s.number }

abbrev pub past_all : List Test → Spot → Spot
past_all [] s = s
past_all (t ∷ ts) s = past_all ts (past t s)

-- behind so many children with so many assignments
abbrev pub next : ℕ → ℕ → Spot → Spot
next children passed s = record { around = s.around; loops = s.loops; child = s.child + children; number = s.number + passed }

abbrev pub test_visits : List Test → Spot → List Name → List Visit
test_visits [] s inner = []
test_visits (t ∷ ts) s inner = visit s inner (test t) ∷ test_visits ts (past t s) inner

-- all that is judged, in the order of the text
abbrev pub visits : Executor → Spot → List Visit
visits done s = []
visits (idle rest) s = visits rest (next 1 0 s)
visits (assign target how value rest) s = visit s [] (assignment target how value) ∷ visits rest (next 1 1 s)
visits (loop x low high body rest) s = visit s (x ∷ first_loops body) (bounds x low high) ∷ (visits body (into x low high s) ++ visits rest (next 1 (assignments body) s))
visits (guard tests body rest) s = test_visits tests s (first_loops body) ++ (visits body (past_all tests s) ++ visits rest (next (width body) (assignments body) s))

-- where an executor begins
abbrev pub outside : Spot
outside = record { around = []; loops = []; child = 0; number = 0 }
