-- The rows of a level hold exactly between the bounds that they give.
use Rattle.std.specs.Prelude.{◌≡◌, ◌↔◌, suc, ◌^◌, Bool, IsTrue, nat_le, ◌&&◌, List, [], ◌∷◌, ◌++◌, length, drop, ℤ, pos, ◌≤ℤ◌, ◌<ℤ◌, unsigned_abs}
use Rattle.std.specs.List.{list_all, AllByRecursion}
use Rattle.int_rows.specs.Rows.{Holds}
use Rattle.nest_tree.specs.Loops.{Levels}
use Rattle.nest_tree.specs.Terms.{Input}
use Rattle.scan_forms.specs.declared.affine.Affine.{Affine}
use Rattle.scan_forms.specs.declared.bounds.Bounds.{Bounds}
use Rattle.scan_forms.specs.declared.claim.Claim.{Claim}
use Rattle.scan_forms.specs.declared.reads.Read.{Read}
use Rattle.scan_forms.specs.Numbers.{are_zero}
use Rattle.scan_forms.specs.Forms.{level_of}
use Rattle.scan_forms.specs.Bounds.{bounds_of}
use Rattle.scanning_laws.specs.Valued.{only_where, founds_from, befores_from}
use Rattle.printed_laws.specs.Laws.{worth}
use Rattle.printed_laws.specs.Loops.{IsBound, low_of, high_of}

-- numbers whose opposites are exact
abbrev pub is_small : ℤ → Bool
is_small z = nat_le (unsigned_abs z) (2 ^ 126)

abbrev pub are_small : Affine → Bool
are_small f = list_all is_small f.params && (list_all is_small f.levels && (list_all is_small f.reads && is_small f.constant))

module _ (i : Input) (table : List Read) (e : Levels) where
  -- A row for the level behind e: it names no later level, and only reads that find their cells at e and name levels of e alone.
  pub record IsRow (c : Claim) : Type 0 where
    pub small : IsTrue (are_small c.form)
    pub levels : IsTrue (are_zero (drop (suc (length e)) c.form.levels))
    pub found : IsTrue (only_where (founds_from i e [] [] table) c.form.reads)
    pub before : IsTrue (only_where (befores_from (length e) [] table) c.form.reads)

  -- all bounds can be printed
  pub record AreBounds (bs : Bounds) : Type 0 where
    pub lower : AllByRecursion (IsBound i table e) bs.lower
    pub upper : AllByRecursion (IsBound i table e) bs.upper

  -- a level's value is between bounds
  pub record IsBetween (bs : Bounds) (v : ℤ) : Type 0 where
    pub above : AllByRecursion (λ b. low_of i table e b ≤ℤ v) bs.lower
    pub below : AllByRecursion (λ b. v <ℤ high_of i table e b) bs.upper

  -- where a row names the level, it holds there with this value
  abbrev pub HoldsWith : ℤ → Claim → Type 0
  HoldsWith v c = (level_of (suc (length e)) c.form ≡ pos 0 → ⊥) → Holds c.equal (worth i table (e ++ v ∷ []) c.form)

-- the bounds that rows give for a level can be printed, and a value is between them exactly where each row that names the level holds
abbrev pub RowsHoldBetweenBounds : Type 0
RowsHoldBetweenBounds =
    (i : Input) (table : List Read) (e : Levels) (cs : List Claim) → AllByRecursion (IsRow i table e) cs
    → AreBounds i table e (bounds_of (suc (length e)) cs) × ((v : ℤ) → IsBetween i table e (bounds_of (suc (length e)) cs) v ↔ AllByRecursion (HoldsWith i table e v) cs)
