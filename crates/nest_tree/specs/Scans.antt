-- The leaves of a tree with the loops and guards around them, and the trees that scan a list of statements.
use Rattle.std.specs.Prelude.{◌≡◌, ℕ, suc, ◌+◌, List, [], ◌∷◌, ◌++◌, map, ℤ, ◌≤ℤ◌, ◌<ℤ◌, Bool, true, IsTrue}
use Rattle.nest_tree.specs.Lists.{IsIn}
use Rattle.nest_tree.specs.Places.{place, IsInstance, Item}
use Rattle.nest_tree.specs.Loops.{Levels, Loops, stop, assign, loop, guard, width}

-- what stands around a leaf: a loop's bounds, or a guard's tests
pub data Around : Type 0 where
  between : (Levels → ℤ) → (Levels → ℤ) → Around
  only_if : (Levels → Bool) → Around

pub record Leaf (T : Type 0) : Type 0 where
  pub positions : List ℕ
  pub around : List Around
  pub step : Levels → T

-- under the outer levels e, the inner levels meet all that stands around
abbrev pub Within : List Around → Levels → Levels → Type 0
Within [] e [] = Unit
Within [] e (v ∷ vs) = ⊥
Within (only_if t ∷ cs) e vs = (t e ≡ true) × Within cs e vs
Within (between low high ∷ cs) e [] = ⊥
Within (between low high ∷ cs) e (v ∷ vs) = (low e ≤ℤ v) × (v <ℤ high e) × Within cs (e ++ v ∷ []) vs

abbrev pub in_loop : {T : Type 0} → ℕ → (Levels → ℤ) → (Levels → ℤ) → Leaf T → Leaf T
in_loop n low high l = record { positions = n ∷ l.positions; around = between low high ∷ l.around; step = l.step }

abbrev pub in_guard : {T : Type 0} → (Levels → Bool) → Leaf T → Leaf T
in_guard t l = record { positions = l.positions; around = only_if t ∷ l.around; step = l.step }

-- the leaves of the children from position n on
abbrev pub leaves : {T : Type 0} → Loops T → ℕ → List (Leaf T)
leaves stop n = []
leaves (assign f rest) n = record { positions = n ∷ []; around = []; step = f } ∷ leaves rest (suc n)
leaves (loop low high body rest) n = map (in_loop n low high) (leaves body 0) ++ leaves rest (suc n)
leaves (guard test body rest) n = map (in_guard test) (leaves body n) ++ leaves rest (n + width body)

-- an item of a leaf
pub record IsOfLeaf {T : Type 0} (ls : List (Leaf T)) (e : Levels) (i : Item T) : Type 0 where
  pub leaf : Leaf T
  pub is_in : IsIn leaf ls
  pub levels : Levels
  pub within : Within leaf.around e levels
  pub place_is : i.place ≡ place leaf.positions levels
  pub step_is : i.step ≡ leaf.step (e ++ levels)

-- a statement with the positions that are left below the loops that were entered
pub record Slot (St : Type 0) : Type 0 where
  pub left : List ℕ
  pub of : St

abbrev pub under : {St : Type 0} → ℕ → Slot St → Slot St
under n s = record { left = n ∷ s.left; of = s.of }

-- what a scan makes of statements: the bounds of the loop of a group, the test around the loop, the test around an assignment, and the assignment; allowed says which groups it makes
pub record Maker (St T : Type 0) : Type 0 where
  pub low : List (Slot St) → Levels → ℤ
  pub high : List (Slot St) → Levels → ℤ
  pub ready : List (Slot St) → Levels → Bool
  pub test : St → Levels → Bool
  pub step : St → Levels → T
  pub allowed : List (Slot St) → Levels → Bool

-- inside the loops with the values e, the children are those that the scan makes of the statements, from position n on; bounds, tests and steps agree wherever the run comes
abbrev pub IsScan : {St T : Type 0} → Maker St T → Loops T → List (Slot St) → ℕ → Levels → Type 0
IsScan m stop slots n e = slots ≡ []
IsScan m (assign f rest) slots n e = ⊥
IsScan {St} {T} m (loop low high body rest) slots n e =
    (group others : List (Slot St)) × (slots ≡ map (under n) group ++ others) × IsTrue (m.allowed group e) × ((s : Slot St) → IsIn s group → s.left ≡ [] → ⊥)
    × (low e ≡ m.low group e) × (high e ≡ m.high group e)
    × ((v : ℤ) → low e ≤ℤ v → v <ℤ high e → IsScan m body group 0 (e ++ v ∷ [])) × IsScan m rest others (suc n) e
IsScan m (guard test stop rest) slots n e = ⊥
IsScan m (guard test (guard test' body' rest') rest) slots n e = ⊥
IsScan m (guard test (loop low high body (assign f r)) rest) slots n e = ⊥
IsScan m (guard test (loop low high body (loop a b c r)) rest) slots n e = ⊥
IsScan m (guard test (loop low high body (guard a b r)) rest) slots n e = ⊥
IsScan {St} m (guard test (loop low high body stop) rest) slots n e =
    (group others : List (Slot St)) × (slots ≡ map (under n) group ++ others) × IsTrue (m.allowed group e) × ((s : Slot St) → IsIn s group → s.left ≡ [] → ⊥) × (test e ≡ m.ready group e)
    × (test e ≡ true → (low e ≡ m.low group e) × (high e ≡ m.high group e) × ((v : ℤ) → low e ≤ℤ v → v <ℤ high e → IsScan m body group 0 (e ++ v ∷ []))) × IsScan m rest others (suc n) e
IsScan m (guard test (assign f (assign g rest')) rest) slots n e = ⊥
IsScan m (guard test (assign f (guard test' body' rest')) rest) slots n e = ⊥
IsScan m (guard test (assign f (loop low high body' rest')) rest) slots n e = ⊥
IsScan {St} m (guard test (assign f stop) rest) slots n e =
    (s : St) × (others : List (Slot St)) × (slots ≡ record { left = n ∷ []; of = s } ∷ others) × (test e ≡ m.test s e) × (test e ≡ true → f e ≡ m.step s e) × IsScan m rest others (suc n) e

-- a point of one of the statements, under the outer levels e
pub record IsPoint {St T : Type 0} (m : Maker St T) (Meets : St → Levels → Type 0) (slots : List (Slot St)) (e : Levels) (i : Item T) : Type 0 where
  pub slot : Slot St
  pub is_in : IsIn slot slots
  pub levels : Levels
  pub depth : IsInstance slot.left levels
  pub meets : Meets slot.of (e ++ levels)
  pub place_is : i.place ≡ place slot.left levels
  pub step_is : i.step ≡ m.step slot.of (e ++ levels)

-- the bounds and tests fit the statements' points; known says of which statements the rows that the loops around settle hold
pub record IsSoundMaker {St T : Type 0} (m : Maker St T) (Meets : St → Levels → Type 0) (known : Slot St → Levels → Bool) : Type 0 where
  pub bounds : (group : List (Slot St)) (s : Slot St) (e : Levels) (v : ℤ) (vs : Levels) → IsTrue (m.allowed group e) → IsIn s group → IsInstance s.left vs → Meets s.of (e ++ v ∷ vs) → (m.low group e ≤ℤ v) × (v <ℤ m.high group e)
  pub ready : (group : List (Slot St)) (s : Slot St) (e : Levels) (v : ℤ) (vs : Levels) → IsTrue (m.allowed group e) → IsIn s group → IsInstance s.left vs → Meets s.of (e ++ v ∷ vs) → m.ready group e ≡ true
  pub settled : (group : List (Slot St)) (s : Slot St) (n : ℕ) (e : Levels) (v : ℤ) → IsTrue (m.allowed group e) → IsIn s group → (s.left ≡ [] → ⊥) → IsTrue (known (under n s) e) → m.low group e ≤ℤ v → v <ℤ m.high group e → IsTrue (known s (e ++ v ∷ []))
  pub tested : (s : St) (e : Levels) → Meets s e → m.test s e ≡ true
  pub enough : (s : St) (p : ℕ) (e : Levels) → IsTrue (known (record { left = p ∷ []; of = s }) e) → m.test s e ≡ true → Meets s e
