-- What is known inside loops that a scan made, and what has to hold of one loop and of one assignment.
use Rattle.std.specs.Prelude.{◌≡◌, ℕ, suc, ◌≤◌, List, [], ◌∷◌, ◌++◌, length, ℤ, ◌≤ℤ◌, ◌<ℤ◌, unsigned_abs, true, IsTrue, Ok}
use Rattle.c_meaning.specs.Value.{value_of, all_hold}
use Rattle.c_meaning.specs.Ground.{Step}
use Rattle.c_meaning.specs.Listing.{Scene, assigned}
use Rattle.nest_tree.specs.declared.kernel.Kernel.{Kernel}
use Rattle.nest_tree.specs.Lists.{IsIn, Pairwise}
use Rattle.nest_tree.specs.Loops.{Levels}
use Rattle.nest_tree.specs.Scans.{Slot, Maker}
use Rattle.scan_forms.specs.declared.claim.Claim.{Claim}
use Rattle.scan_forms.specs.declared.reads.Read.{Read}
use Rattle.scanning.specs.Parts.{Part, Around, Opened, Assigned, context_of}
use Rattle.scanning.specs.Heads.{opened}
use Rattle.scanning.specs.Assignments.{assignment}
use Rattle.scanning_laws.specs.Derived.{scene_in, seen_in, IsOf}

-- a level's value keeps to the loop's size
abbrev pub KeepsTo : Opened → ℤ → Type 0
KeepsTo o v = unsigned_abs v ≤ o.size

-- Says: a claim holds at level values, and its reads are found there. Before: it names only levels before one, also inside reads.
module _ (k : Kernel) (table : List Read) (Says : Claim → Levels → Type 0) (Before : ℕ → Claim → Type 0) where
  pub record Knows (a : Around) (e : Levels) : Type 0 where
    pub long : length e ≡ length a
    pub says : (x : Claim) → IsIn x (context_of a) → Says x e
    pub before : (x : Claim) → IsIn x (context_of a) → Before (length a) x
    pub sized : Pairwise KeepsTo a e

  -- claims stay true in further loops
  pub record AreSteady : Type 0 where
    pub steady : (q : ℕ) (x : Claim) (e : Levels) (v : ℤ) → Before q x → length e ≡ q → Says x e → Says x (e ++ v ∷ [])
    pub later : (q : ℕ) (x : Claim) → Before q x → Before (suc q) x

  module _ (Good : Around → Part → Type 0) {St : Type 0} (plan : (a : Around) (p : Part) → Good a p → St) where
    pub record IsLocal (m : Maker St Step) (c : Scene) : Type 0 where
      pub claims : AreSteady
      -- an assignment's tests and cells have the values that the maker has
      pub assignments : (a : Around) (p : Part) (g : Good a p) (x : Assigned) (e : Levels) → assignment k table a p ≡ Ok x → Knows a e
          → (all_hold x.tests (seen_in c a e) ≡ Ok (m.test (plan a p g) e)) × (m.test (plan a p g) e ≡ true → assigned x.target x.how x.value (scene_in c a e) ≡ Ok (m.step (plan a p g) e))
      -- so have a loop's tests and bounds
      pub heads : (a : Around) (ps : List Part) (o : Opened) (group : List (Slot St)) (e : Levels) → opened k table a ps ≡ Ok o
          → ((s : Slot St) → IsIn s group → IsOf k table Good plan (a ++ o ∷ []) ps s) → Knows a e
          → IsTrue (m.allowed group e) × (all_hold o.tests (seen_in c a e) ≡ Ok (m.ready group e))
          × (m.ready group e ≡ true → (value_of o.low (seen_in c a e) ≡ Ok (m.low group e)) × (value_of o.high (seen_in c a e) ≡ Ok (m.high group e)))
      -- and the bounds are no greater than the loop's size
      pub sizes : (a : Around) (ps : List Part) (o : Opened) (group : List (Slot St)) (e : Levels) → opened k table a ps ≡ Ok o
          → ((s : Slot St) → IsIn s group → IsOf k table Good plan (a ++ o ∷ []) ps s) → Knows a e → m.ready group e ≡ true
          → (unsigned_abs (m.low group e) ≤ o.size) × (unsigned_abs (m.high group e) ≤ o.size)
      -- the claims that the tests are hold where these are true
      pub asked : (a : Around) (ps : List Part) (o : Opened) (e : Levels) (x : Claim) → opened k table a ps ≡ Ok o → Knows a e → all_hold o.tests (seen_in c a e) ≡ Ok true
          → IsIn x o.asked → Says x e × Before (length a) x
      -- the rows from which the bounds were made hold between them
      pub known : (a : Around) (ps : List Part) (o : Opened) (group : List (Slot St)) (e : Levels) (v : ℤ) (x : Claim) → opened k table a ps ≡ Ok o
          → ((s : Slot St) → IsIn s group → IsOf k table Good plan (a ++ o ∷ []) ps s) → Knows a e → m.ready group e ≡ true → m.low group e ≤ℤ v → v <ℤ m.high group e
          → IsIn x o.known → Says x (e ++ v ∷ []) × Before (suc (length a)) x
