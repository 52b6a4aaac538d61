-- The pieces that commands make in code are those of which the laws on pieces speak, for every statement.
use Rattle.std.specs.Prelude.{◌≡◌, ◌<◌, ◌≤◌, ℕ, suc, List, length, ℤ, pos}
use Rattle.nest_tree.specs.declared.kernel.Nest.{Nest}
use Rattle.nest_tree.specs.Levels.{IsPermutation}
use Rattle.nest_tree.specs.Pieces.{IsPermutedPiece, IsTiledPiece, IsSkewedPiece, IsShiftedPiece, IsPlacedPiece}
use Rattle.affine_moves.specs.declared.change.Change.TheVariants.{Stay, Order, Tile, Skew, Shift}
use Rattle.affine_moves.specs.Change.{piece_of}
use Rattle.affine_moves.specs.Placed.{piece_at}

-- `permute`, by an order of all levels
abbrev pub PermuteMakesPermutedPiece : Type 0
PermuteMakesPermutedPiece = (params : ℕ) (order : List ℕ) (n : Nest) → IsPermutation order → length order ≡ length n.levels → IsPermutedPiece params order (piece_of params (Order order) n)

-- `shift`
abbrev pub ShiftMakesShiftedPiece : Type 0
ShiftMakesShiftedPiece = (params level : ℕ) (amount : ℤ) (n : Nest) → IsShiftedPiece params level amount (length n.levels) (piece_of params (Shift level amount) n)

-- `tile`: the new level stands before or at the tiled one
abbrev pub TileMakesTiledPiece : Type 0
TileMakesTiledPiece =
    (params level size outer : ℕ) (n : Nest) → 0 < outer → outer ≤ level → level ≤ length n.levels
    → IsTiledPiece params (pos size) outer level (length n.levels) (piece_of params (Tile level size outer) n)

-- `skew`: the level behind those whose multiples are added
abbrev pub SkewMakesSkewedPiece : Type 0
SkewMakesSkewedPiece = (params : ℕ) (coefs : List ℤ) (n : Nest) → length coefs < length n.levels → IsSkewedPiece params coefs (length n.levels) (piece_of params (Skew (suc (length coefs)) coefs) n)

-- a statement that stays, at its positions or at others, as by `fuse` and `distribute`
abbrev pub StayMakesPlacedPiece : Type 0
StayMakesPlacedPiece =
    (params : ℕ) (n : Nest) (positions : List ℕ)
    → IsPlacedPiece params (length n.levels) (piece_of params Stay n) × IsPlacedPiece params (length n.levels) (piece_at params n positions)
