-- Worked pieces of commands: each meets what its law asks, and is one to one.
use Rattle.std.specs.Prelude.{◌≡◌, suc, [], ◌∷◌, length, ℤ, pos, negsuc}
use Rattle.nest_tree.specs.declared.form.Form.TheVariants.{Other}
use Rattle.nest_tree.specs.Moving.{Move, IsOneToOne}
use Rattle.nest_tree.specs.Rewriting.{IsRewritten}
use Rattle.nest_tree.specs.Levels.{IsPermutation, NoTwice}
use Rattle.nest_tree.specs.Pieces.{IsPermutedPiece, IsTiledPiece, IsSkewedPiece, IsPlacedPiece}
use Rattle.nest_laws.specs.PieceLaws.{old_depth, KeepsDepth}
use Rattle.worked_laws.specs.Statements.{form, at_least_zero, one_cell, grid, piece, moved, input}

-- i is the new inner level, and j the outer one
abbrev pub swapped : Move
swapped = moved grid (piece (0 ∷ 0 ∷ 0 ∷ []) (Other ∷ Other ∷ []) (form (pos 0 ∷ pos 0 ∷ pos 1 ∷ []) (pos 0) ∷ form (pos 0 ∷ pos 1 ∷ []) (pos 0) ∷ []) [])

abbrev pub PermutedGrid : Type 0
PermutedGrid =
    IsPermutation (2 ∷ 1 ∷ []) × NoTwice (2 ∷ 1 ∷ []) × (2 ≡ old_depth swapped) × IsRewritten 1 swapped × KeepsDepth swapped × IsPermutedPiece 1 (2 ∷ 1 ∷ []) swapped.piece
    × ((n : ℤ) → IsOneToOne (input n) swapped)

-- i is the new inner level, and 0 <= i-2*t <= 1 for the tile t
abbrev pub in_twos : Move
in_twos = moved one_cell (piece (0 ∷ 0 ∷ 0 ∷ []) (Other ∷ Other ∷ []) (form (pos 0 ∷ pos 0 ∷ pos 1 ∷ []) (pos 0) ∷ []) (
    at_least_zero 2 (form (pos 0 ∷ negsuc 1 ∷ pos 1 ∷ []) (pos 0)) ∷ at_least_zero 2 (form (pos 0 ∷ pos 2 ∷ negsuc 0 ∷ []) (pos 1)) ∷ []))

abbrev pub TiledLoop : Type 0
TiledLoop =
    IsRewritten 1 in_twos × (length (in_twos.piece).levels ≡ suc (old_depth in_twos)) × IsTiledPiece 1 (pos 2) 1 1 1 in_twos.piece × ((n : ℤ) → IsOneToOne (input n) in_twos)

-- j is the new inner level less i
abbrev pub slanted : Move
slanted = moved grid (piece (0 ∷ 0 ∷ 0 ∷ []) (Other ∷ Other ∷ []) (form (pos 0 ∷ pos 1 ∷ []) (pos 0) ∷ form (pos 0 ∷ negsuc 0 ∷ pos 1 ∷ []) (pos 0) ∷ []) [])

abbrev pub SkewedGrid : Type 0
SkewedGrid = IsRewritten 1 slanted × KeepsDepth slanted × IsSkewedPiece 1 (pos 1 ∷ []) 2 slanted.piece × ((n : ℤ) → IsOneToOne (input n) slanted)

-- the loop stands behind another
abbrev pub behind : Move
behind = moved one_cell (piece (1 ∷ 0 ∷ []) (Other ∷ []) (form (pos 0 ∷ pos 1 ∷ []) (pos 0) ∷ []) [])

abbrev pub PlacedLoop : Type 0
PlacedLoop = IsRewritten 1 behind × KeepsDepth behind × IsPlacedPiece 1 1 behind.piece × ((n : ℤ) → IsOneToOne (input n) behind)
