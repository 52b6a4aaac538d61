-- Laws of moved instances: what the level values are at which a command's piece puts an old instance. The assignment at the new
-- place is the old one: an item keeps its step.
use Rattle.std.specs.Prelude.{◌≡◌, ◌↔◌, ℕ, suc, ◌<◌, ◌≤◌, List, length, ℤ, pos}
use Rattle.nest_tree.specs.Terms.{Input}
use Rattle.nest_tree.specs.Kernels.{IsPointOf}
use Rattle.nest_tree.specs.Moving.{Move, Gives}
use Rattle.nest_tree.specs.Rewriting.{IsRewritten}
use Rattle.nest_tree.specs.Levels.{IsPermutation, NoTwice, permuted, IsTiled, skewed, shifted}
use Rattle.nest_tree.specs.Pieces.{IsPermutedPiece, IsTiledPiece, IsSkewedPiece, IsShiftedPiece, IsPlacedPiece}
use Rattle.nest_laws.specs.PieceLaws.{old_depth, KeepsDepth}

-- a piece takes an old instance exactly to the level values that stand so to the old ones
abbrev pub GivesExactly : Input → Move → (List ℤ → List ℤ → Type 0) → Type 0
GivesExactly i m Becomes = (vs ws : List ℤ) → IsPointOf i m.old vs → Gives i m vs ws ↔ Becomes vs ws

-- `permute`: new level t has the value of old level order[t]
abbrev pub PermutedLevels : Type 0
PermutedLevels =
    (i : Input) (m : Move) (order : List ℕ) → IsRewritten (length i.params) m → KeepsDepth m → IsPermutation order → NoTwice order → length order ≡ old_depth m
    → IsPermutedPiece (length i.params) order m.piece → GivesExactly i m (λ vs ws. ws ≡ permuted order vs)

-- `tile`: a new level at `outer` has the number of the tile in which the value of the old level is
abbrev pub TiledLevels : Type 0
TiledLevels =
    (i : Input) (m : Move) (size outer level : ℕ) → IsRewritten (length i.params) m → length (m.piece).levels ≡ suc (old_depth m) → 0 < size → 0 < outer → outer ≤ level → level ≤ old_depth m
    → IsTiledPiece (length i.params) (pos size) outer level (old_depth m) m.piece → GivesExactly i m (IsTiled (pos size) outer level)

-- `skew`: multiples of the levels before are added to a level
abbrev pub SkewedLevels : Type 0
SkewedLevels =
    (i : Input) (m : Move) (coefs : List ℤ) → IsRewritten (length i.params) m → KeepsDepth m
    → IsSkewedPiece (length i.params) coefs (old_depth m) m.piece → GivesExactly i m (λ vs ws. ws ≡ skewed coefs (pos 0) vs)

-- `shift`: a number is added to a level
abbrev pub ShiftedLevels : Type 0
ShiftedLevels =
    (i : Input) (m : Move) (level : ℕ) (amount : ℤ) → IsRewritten (length i.params) m → KeepsDepth m
    → IsShiftedPiece (length i.params) level amount (old_depth m) m.piece → GivesExactly i m (λ vs ws. ws ≡ shifted level amount vs)

-- `fuse` and `distribute`: all levels keep their values
abbrev pub PlacedLevels : Type 0
PlacedLevels = (i : Input) (m : Move) → IsRewritten (length i.params) m → KeepsDepth m → IsPlacedPiece (length i.params) (old_depth m) m.piece → GivesExactly i m (λ vs ws. ws ≡ vs)
