-- What a loop does that a scan opened: its tests, its bounds, and what holds in its turns.
use Rattle.std.specs.Prelude.{◌≡◌, ◌⊎◌, ℕ, suc, ◌≤◌, Bool, true, false, IsTrue, List, [], ◌∷◌, ◌++◌, map, length, drop, ℤ, pos, ◌≤ℤ◌, ◌<ℤ◌, slice_index_or, Ok}
use Rattle.std.specs.List.{AllByRecursion}
use Rattle.c_meaning.specs.Value.{Sight, all_hold}
use Rattle.int_rows.specs.Rows.{Holds}
use Rattle.nest_tree.specs.declared.kernel.Kernel.{Kernel}
use Rattle.nest_tree.specs.Lists.{IsIn}
use Rattle.nest_tree.specs.Loops.{Levels}
use Rattle.nest_tree.specs.Terms.{Input}
use Rattle.scan_laws.specs.Bounds.{least, greatest}
use Rattle.scan_forms.specs.declared.claim.Claim.{Claim}
use Rattle.scan_forms.specs.declared.reads.Read.{Read}
use Rattle.scan_forms.specs.Numbers.{are_zero}
use Rattle.scan_forms.specs.Forms.{level_of}
use Rattle.loop_scan.specs.declared.sides.Sides.{Sides}
use Rattle.loop_scan.specs.Choices.{printed_sides}
use Rattle.scanning.specs.Parts.{Part, Around, Opened, context_of, sizes_of}
use Rattle.scanning_laws.specs.Valued.{only_where, founds_from, befores_from, Says}
use Rattle.scanning_laws.specs.Asking.{AllHold, IsAsking}
use Rattle.scanning_laws.specs.Naming.{IsTable, IsInnerOf}
use Rattle.scanning_laws.specs.Opening.{IsOpened}
use Rattle.printed_laws.specs.Printed.{AreDistinct, Sees, CanBeRead}
use Rattle.printed_laws.specs.Laws.{worth, HasValue}
use Rattle.printed_laws.specs.Loops.{own_low, own_high}
use Rattle.printed_laws.specs.Between.{are_small}

module _ (i : Input) (table : List Read) (e : Levels) where
  -- at level values: a claim can be read, and holds; a read finds its cell, and names only the levels around, also inside reads
  abbrev pub Readable : Claim → Type 0
  Readable x = CanBeRead i table e x.form

  abbrev pub Holding : Claim → Type 0
  Holding x = Holds x.equal (worth i table e x.form)

  abbrev pub Found : ℕ → Type 0
  Found j = (slice_index_or (founds_from i e [] [] table) j false ≡ true) × (slice_index_or (befores_from (length e) [] table) j false ≡ true)

  -- a row of the level behind e: it names this level, none later, and only reads of the table, which name levels of e alone
  pub record IsLevelRow (c : Claim) : Type 0 where
    pub named : level_of (suc (length e)) c.form ≡ pos 0 → ⊥
    pub small : IsTrue (are_small c.form)
    pub levels : IsTrue (are_zero (drop (suc (length e)) c.form.levels))
    pub before : IsTrue (only_where (befores_from (length e) [] table) c.form.reads)
    pub fits : length c.form.reads ≤ length table

  -- a statement is bounded on both sides, from such rows
  pub record AreSides (s : Sides) : Type 0 where
    pub order : AreDistinct s.order
    pub some_lower : (s.bounds).lower ≡ [] → ⊥
    pub some_upper : (s.bounds).upper ≡ [] → ⊥
    pub rows : AllByRecursion IsLevelRow s.used

-- A read rests on those in its arguments; one that names a further level rests on itself too, so that nothing is said of it here.
abbrev pub RestsOn : List Read → Levels → ℕ → ℕ → Type 0
RestsOn table e j i = IsInnerOf table j i ⊎ ((j ≡ i) × (slice_index_or (befores_from (length e) [] table) i false ≡ false))

-- What happens at a loop at level values: its tests have an answer. Where it is true, the claims that they are hold, the bounds have
-- the values of the statements' bounds, and in each turn the rows from which they were made are said.
pub record LoopDoes (k : Kernel) (table : List Read) (a : Around) (ps : List Part) (o : Opened) (w : IsOpened k table a ps o) (s : Sight) (i : Input) (e : Levels) : Type 0 where
  pub answer : Bool
  pub tests : all_hold o.tests s ≡ Ok answer
  pub asked : answer ≡ true → (x : Claim) → IsIn x o.asked → Readable i table e x × Holding i table e x
  pub passes : ((x : Claim) → IsIn x o.asked → Holding i table e x) → answer ≡ true
  pub low : answer ≡ true → HasValue k s o.low (least (map (own_low i table e) (printed_sides w.sides))) o.size
  pub high : answer ≡ true → HasValue k s o.high (greatest (map (own_high i table e) (printed_sides w.sides))) o.size
  pub known : answer ≡ true → (v : ℤ) → least (map (own_low i table e) (printed_sides w.sides)) ≤ℤ v → v <ℤ greatest (map (own_high i table e) (printed_sides w.sides))
      → (x : Claim) → IsIn x o.known → Says i table x (e ++ v ∷ [])

-- so it is where all that is known around the loop holds, and what asking for reads rests on does
abbrev pub OpenedLoopsDo : Type 0
OpenedLoopsDo =
    (k : Kernel) (table : List Read) (a : Around) (ps : List Part) (o : Opened) (w : IsOpened k table a ps o) (s : Sight) (i : Input) (e : Levels) → Sees k i (sizes_of a) e s → IsTable table
    → length e ≡ length a → (ps ≡ [] → ⊥) → AllByRecursion (AreSides i table e) (printed_sides w.sides) → AllHold (Readable i table e) (Holding i table e) (context_of a)
    → IsAsking k table (Readable i table e) (Holding i table e) (Found i table e) (RestsOn table e) → LoopDoes k table a ps o w s i e
