-- The executors that are printed for statements: what each loop, guard and assignment gives wherever the run comes.
use Rattle.std.specs.Prelude.{◌≡◌, ℕ, suc, List, [], ◌∷◌, ◌++◌, map, ℤ, ◌≤ℤ◌, ◌<ℤ◌, Bool, true, IsTrue, Ok}
use Rattle.c_meaning.specs.Value.{Answer}
use Rattle.c_meaning.specs.Ground.{Step}
use Rattle.nest_tree.specs.Lists.{IsIn}
use Rattle.nest_tree.specs.Loops.{Levels}
use Rattle.nest_tree.specs.Scans.{Slot, under, Maker}
use Rattle.nest_laws.specs.Trees.{Tree, end, step, turns, when}

-- each statement of a group stands in a further loop
abbrev pub AreDeeper : {St : Type 0} → List (Slot St) → Type 0
AreDeeper {St} group = (s : Slot St) → IsIn s group → s.left ≡ [] → ⊥

-- Inside the loops with the values e, children from position n on are printed for the statements of these slots, one rule
-- for each form that a child has. Bounds, tests and steps have values, those of the maker, wherever the run comes.
pub data IsPrinted {St : Type 0} (m : Maker St Step) : Tree → List (Slot St) → ℕ → Levels → Type 0 where
  none : (n : ℕ) (e : Levels) → IsPrinted m end [] n e
  -- an assignment that needs no test
  alone : (f : Levels → Answer Step) (rest : Tree) (s : St) (others : List (Slot St)) (n : ℕ) (e : Levels)
      → m.test s e ≡ true → f e ≡ Ok (m.step s e) → IsPrinted m rest others (suc n) e
      → IsPrinted m (step f rest) (record { left = n ∷ []; of = s } ∷ others) n e
  -- an assignment under tests
  tested : (test : Levels → Answer Bool) (f : Levels → Answer Step) (rest : Tree) (s : St) (others : List (Slot St)) (n : ℕ) (e : Levels)
      → test e ≡ Ok (m.test s e) → (m.test s e ≡ true → f e ≡ Ok (m.step s e)) → IsPrinted m rest others (suc n) e
      → IsPrinted m (when test (step f end) rest) (record { left = n ∷ []; of = s } ∷ others) n e
  -- a loop around the statements of a group
  around : (low high : Levels → Answer ℤ) (body rest : Tree) (group others : List (Slot St)) (n : ℕ) (e : Levels)
      → IsTrue (m.allowed group e) → AreDeeper group → low e ≡ Ok (m.low group e) → high e ≡ Ok (m.high group e)
      → ((v : ℤ) → m.low group e ≤ℤ v → v <ℤ m.high group e → IsPrinted m body group 0 (e ++ v ∷ [])) → IsPrinted m rest others (suc n) e
      → IsPrinted m (turns low high body rest) (map (under n) group ++ others) n e
  -- a loop under tests, whose bounds have values where the tests are true
  around_if : (test : Levels → Answer Bool) (low high : Levels → Answer ℤ) (body rest : Tree) (group others : List (Slot St)) (n : ℕ) (e : Levels)
      → IsTrue (m.allowed group e) → AreDeeper group → test e ≡ Ok (m.ready group e)
      → (m.ready group e ≡ true → low e ≡ Ok (m.low group e)) → (m.ready group e ≡ true → high e ≡ Ok (m.high group e))
      → (m.ready group e ≡ true → (v : ℤ) → m.low group e ≤ℤ v → v <ℤ m.high group e → IsPrinted m body group 0 (e ++ v ∷ [])) → IsPrinted m rest others (suc n) e
      → IsPrinted m (when test (turns low high body end) rest) (map (under n) group ++ others) n e
