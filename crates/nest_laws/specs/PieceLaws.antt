-- Laws of the affine commands' pieces: each takes the old instances of a statement to its new points one to one.
use Rattle.std.specs.Prelude.{◌≡◌, ℕ, suc, ◌≤◌, ◌<◌, List, length, ℤ, pos, ◌≤ℤ◌}
use Rattle.nest_tree.specs.Places.{IsBefore, place, IsInstance}
use Rattle.nest_tree.specs.Terms.{Input}
use Rattle.nest_tree.specs.Moving.{Move, IsOneToOne}
use Rattle.nest_tree.specs.Rewriting.{IsRewritten}
use Rattle.nest_tree.specs.Levels.{IsPermutation, NoTwice, skewed}
use Rattle.nest_tree.specs.Unrolling.{Upper, MeetsUppers, Part, IsUnrolled}
use Rattle.nest_tree.specs.Pieces.{IsPermutedPiece, IsTiledPiece, IsSkewedPiece, IsShiftedPiece, IsPlacedPiece}

abbrev pub old_depth : Move → ℕ
old_depth m = length (m.old).levels

-- the new statement is as deep as the old one
abbrev pub KeepsDepth : Move → Type 0
KeepsDepth m = length (m.piece).levels ≡ length (m.old).levels

abbrev pub PermuteIsOneToOne : Type 0
PermuteIsOneToOne =
    (i : Input) (m : Move) (order : List ℕ) → IsRewritten (length i.params) m → KeepsDepth m → IsPermutation order → NoTwice order → length order ≡ old_depth m
    → IsPermutedPiece (length i.params) order m.piece → IsOneToOne i m

-- the tile loop stands at `outer`, before or at the tiled level
abbrev pub TileIsOneToOne : Type 0
TileIsOneToOne =
    (i : Input) (m : Move) (size outer level : ℕ) → IsRewritten (length i.params) m → length (m.piece).levels ≡ suc (old_depth m) → 0 < size → 0 < outer → outer ≤ level → level ≤ old_depth m
    → IsTiledPiece (length i.params) (pos size) outer level (old_depth m) m.piece → IsOneToOne i m

abbrev pub SkewIsOneToOne : Type 0
SkewIsOneToOne = (i : Input) (m : Move) (coefs : List ℤ) → IsRewritten (length i.params) m → KeepsDepth m → IsSkewedPiece (length i.params) coefs (old_depth m) m.piece → IsOneToOne i m

abbrev pub ShiftIsOneToOne : Type 0
ShiftIsOneToOne = (i : Input) (m : Move) (level : ℕ) (amount : ℤ) → IsRewritten (length i.params) m → KeepsDepth m → IsShiftedPiece (length i.params) level amount (old_depth m) m.piece → IsOneToOne i m

-- `fuse` and `distribute`
abbrev pub PlaceIsOneToOne : Type 0
PlaceIsOneToOne = (i : Input) (m : Move) → IsRewritten (length i.params) m → KeepsDepth m → IsPlacedPiece (length i.params) (old_depth m) m.piece → IsOneToOne i m

-- two instances that are skewed alike keep their order, so `skew` needs no test
abbrev pub SkewKeepsOrder : Type 0
SkewKeepsOrder =
    (coefs : List ℤ) (ps : List ℕ) (vs : List ℤ) (qs : List ℕ) (ws : List ℤ) → IsInstance ps vs → IsInstance qs ws → IsBefore (place ps vs) (place qs ws)
    → IsBefore (place ps (skewed coefs (pos 0) vs)) (place qs (skewed coefs (pos 0) ws))

-- each value of the unrolled level that meets its lower and upper rows is at one place of one group of one piece, and each value in a group meets them
abbrev pub UnrollIsOneToOne : Type 0
UnrollIsOneToOne =
    (low : ℤ) (factor : ℕ) (us : List Upper) (v : ℤ) → 0 < factor
    → (low ≤ℤ v → MeetsUppers v us → (p : Part) × (q r : ℤ) × IsUnrolled low factor us p q r v)
    × ((p x : Part) (q r s t : ℤ) → IsUnrolled low factor us p q r v → IsUnrolled low factor us x s t v → (p ≡ x) × (q ≡ s) × (r ≡ t))
    × ((p : Part) (q r : ℤ) → IsUnrolled low factor us p q r v → (low ≤ℤ v) × MeetsUppers v us)
