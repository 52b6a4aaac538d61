-- What the definition of a scan made, step by step; the statements that stand in it; and what has to hold of each step, wherever the run comes.
use Rattle.std.specs.Prelude.{◌≡◌, ℕ, zero, suc, List, [], ◌∷◌, ◌++◌, map, length, ℤ, ◌≤ℤ◌, ◌<ℤ◌, true, IsTrue, Ok}
use Rattle.c_tree.specs.declared.statement.Stmt.{Stmt}
use Rattle.c_meaning.specs.Names.{Name}
use Rattle.c_meaning.specs.Value.{Sight, value_of, all_hold}
use Rattle.c_meaning.specs.Ground.{Step}
use Rattle.c_meaning.specs.Listing.{Scene, assigned}
use Rattle.nest_tree.specs.declared.kernel.Kernel.{Kernel}
use Rattle.nest_tree.specs.Lists.{IsIn}
use Rattle.nest_tree.specs.Loops.{Levels}
use Rattle.nest_tree.specs.Scans.{Slot, under, Maker}
use Rattle.nest_laws.specs.Trees.{bind_all}
use Rattle.scan_forms.specs.declared.reads.Read.{Read}
use Rattle.scanning.specs.Shapes.{Loops, end, leaf, loop, leaves}
use Rattle.scanning.specs.Written.{level_name}
use Rattle.scanning.specs.Parts.{Part, Around, Opened, Assigned, stated, looped}
use Rattle.scanning.specs.Heads.{opened}
use Rattle.scanning.specs.Assignments.{assignment}

-- the variables of so many loops
abbrev pub names_of : ℕ → List Name
names_of zero = []
names_of (suc q) = names_of q ++ level_name q ∷ []

-- what is seen in the loops of a, at these values
abbrev pub scene_in : Scene → Around → Levels → Scene
scene_in c a e = bind_all (names_of (length a)) e c

abbrev pub seen_in : Scene → Around → Levels → Sight
seen_in c a e = (scene_in c a e).sight

-- Good says of a statement, inside loops that the scan made around it, what doesn't depend on the run
module _ (k : Kernel) (table : List Read) (Good : Around → Part → Type 0) where
  pub data IsScanned : Around → Loops Part → List Stmt → Type 0 where
    none : (a : Around) → IsScanned a end []
    one : (a : Around) (p : Part) (rest : Loops Part) (x : Assigned) (more : List Stmt) → Good a p → assignment k table a p ≡ Ok x
        → IsScanned a rest more → IsScanned a (leaf p rest) (stated x ∷ more)
    around : (a : Around) (n : ℕ) (body rest : Loops Part) (o : Opened) (inner more : List Stmt) → opened k table a (leaves body) ≡ Ok o
        → IsScanned (a ++ o ∷ []) body inner → IsScanned a rest more → IsScanned a (loop n body rest) (looped a o inner ∷ more)

  module _ {St : Type 0} (plan : (a : Around) (p : Part) → Good a p → St) where
    -- the statements, with the positions that they have inside the loops
    abbrev pub slots : {a : Around} {t : Loops Part} {ss : List Stmt} → IsScanned a t ss → ℕ → List (Slot St)
    slots (none a) n = []
    slots (one a p rest x more g is d) n = record { left = n ∷ []; of = plan a p g } ∷ slots d (suc n)
    slots (around a m body rest o inner more is d r) n = map (under n) (slots d 0) ++ slots r (suc n)

    -- a statement of a loop: one of these parts, inside loops that begin with those of a
    pub record IsOf (a : Around) (ps : List Part) (s : Slot St) : Type 0 where
      pub part : Part
      pub more : Around
      pub good : Good (a ++ more) part
      pub is_in : IsIn part ps
      pub is : s.of ≡ plan (a ++ more) part good

    -- Here says what is known inside the loops of a, at values of them
    pub record IsFaithful (m : Maker St Step) (c : Scene) (Here : Around → Levels → Type 0) : Type 0 where
      pub assignments : (a : Around) (p : Part) (g : Good a p) (x : Assigned) (e : Levels) → assignment k table a p ≡ Ok x → Here a e
          → (all_hold x.tests (seen_in c a e) ≡ Ok (m.test (plan a p g) e)) × (m.test (plan a p g) e ≡ true → assigned x.target x.how x.value (scene_in c a e) ≡ Ok (m.step (plan a p g) e))
      pub heads : (a : Around) (ps : List Part) (o : Opened) (group : List (Slot St)) (e : Levels) → opened k table a ps ≡ Ok o
          → ((s : Slot St) → IsIn s group → IsOf (a ++ o ∷ []) ps s) → Here a e
          → IsTrue (m.allowed group e) × (all_hold o.tests (seen_in c a e) ≡ Ok (m.ready group e))
          × (m.ready group e ≡ true → (value_of o.low (seen_in c a e) ≡ Ok (m.low group e)) × (value_of o.high (seen_in c a e) ≡ Ok (m.high group e)))
      pub turns : (a : Around) (ps : List Part) (o : Opened) (group : List (Slot St)) (e : Levels) (v : ℤ) → opened k table a ps ≡ Ok o
          → ((s : Slot St) → IsIn s group → IsOf (a ++ o ∷ []) ps s) → Here a e
          → m.ready group e ≡ true → m.low group e ≤ℤ v → v <ℤ m.high group e → Here (a ++ o ∷ []) (e ++ v ∷ [])
