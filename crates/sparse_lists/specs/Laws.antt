-- Laws of dense and compacted lists.
use Rattle.std.specs.Prelude.{◌≡◌, ℕ, suc, ◌≤◌, ◌<◌, List, length, ℤ, Bool, true}
use Rattle.nest_tree.specs.Lists.{IsIn, IsListOf}
use Rattle.nest_tree.specs.Places.{Item, Precedes}
use Rattle.nest_tree.specs.Effects.{IsMoved}
use Rattle.c_meaning.specs.Ground.{Step}
use Rattle.sparse_marks.specs.Kept.{is_among, Placed, kept, kept_before, start, position, nth}
use Rattle.sparse_lists.specs.Moving.{Goes, IsOneToOne, IsOf, densified, dense_positions, first_compacted, second_compacted, first_is_kept, second_is_kept}

-- no two kept values have one position
abbrev pub PositionsAreOneToOne : Type 0
PositionsAreOneToOne =
    (es : List Placed) (h g : ℕ) (v w : ℤ) → is_among v (kept h es) ≡ true → is_among w (kept g es) ≡ true → position h v es ≡ position g w es → (h ≡ g) × (v ≡ w)

-- each position from the start of a group to below the next start is that of the kept value which stands there
pub record IsPositionOf (es : List Placed) (g n p : ℕ) : Type 0 where
  pub kept : is_among (nth (kept_before n es) p) (kept g es) ≡ true
  pub position : position g (nth (kept_before n es) p) es ≡ p

abbrev pub PositionsTellKeptValues : Type 0
PositionsTellKeptValues = (es : List Placed) (g n p : ℕ) → g < n → start g es ≤ p → p < start (suc g) es → IsPositionOf es g n p

-- the sorted list of the items' new places is the old list moved, one for one
abbrev pub RelocatedListIsMoved : Type 0
RelocatedListIsMoved =
    (holds : List ℤ → Bool) (ps qs : List ℕ) (to : List ℤ → List ℤ) → IsOneToOne holds ps qs to
    → (xs ys : List (Item Step)) → ((x : Item Step) → IsIn x xs → IsOf holds ps x) → IsListOf Precedes (λ y. (x : Item Step) × IsIn x xs × Goes ps qs to x y) ys
    → IsMoved (Goes ps qs to) xs ys

abbrev pub DenseLevelsAreOneToOne : Type 0
DenseLevelsAreOneToOne = (ps : List ℕ) (l : ℕ) (column : List ℤ → ℤ) → 0 < l → l ≤ length ps → IsOneToOne (λ vs. true) ps (dense_positions l ps) (densified l column)

abbrev pub CompactedLevelsAreOneToOne : Type 0
CompactedLevelsAreOneToOne = (es : List Placed) (ps : List ℕ) → IsOneToOne (first_is_kept es) ps ps (first_compacted es) × IsOneToOne (second_is_kept es) ps ps (second_compacted es)
