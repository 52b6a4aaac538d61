-- Statements to which a command doesn't apply are left as they are, in their order.
use Rattle.std.specs.Prelude.{◌≡◌, ℕ, suc, Bool, false, List, length, ℤ, Some, Ok}
use Rattle.nest_tree.specs.declared.kernel.Kernel.{Kernel}
use Rattle.nest_tree.specs.declared.moves.Moves.{Moves}
use Rattle.nest_tree.specs.Carriers.{shared}
use Rattle.nest_tree.specs.Lists.{IsIn}
use Rattle.nest_tree.specs.Moving.{Move}
use Rattle.nest_tree.specs.Pieces.{IsPlacedPiece}
use Rattle.nest_tree.specs.Places.{IsTextBefore}
use Rattle.nest_tree.specs.Terms.{Input}
use Rattle.nest_core.specs.Shapes.{IsShaped}
use Rattle.affine_moves.specs.Moves.{permute_moves, tile_moves, skew_moves, shift_moves}
use Rattle.fuse_distribute.specs.Fusing.{fuse_moves}
use Rattle.fuse_distribute.specs.Distributing.{distribute_moves}
use Rattle.unroll.specs.Moves.{unrolled}
use Rattle.move_laws.specs.Moves.{moves_of_all}
use Rattle.pair_laws.specs.Changes.{OthersStay}
use Rattle.tested_laws.specs.Testing.{applies_to}

-- a statement keeps its levels, at the positions of its piece
pub record IsLeft (params : ℕ) (x : Move) : Type 0 where
  pub placed : IsPlacedPiece params (length (x.old).levels) x.piece
  pub deep : length (x.piece).positions ≡ suc (length (x.old).levels)

-- new positions share as many loops as old ones, and stand in the same order
pub record StandAlike (ps qs rs ss : List ℕ) : Type 0 where
  pub shares : shared rs ss ≡ shared ps qs
  pub before : IsTextBefore ps qs → IsTextBefore rs ss

-- the statements to which a command doesn't apply are left, and stand to one another as before
pub record LeaveOthers (params : ℕ) (applies : Move → Bool) (moves : List Move) : Type 0 where
  pub left : (x : Move) → IsIn x moves → applies x ≡ false → IsLeft params x
  pub alike : (x y : Move) → IsIn x moves → IsIn y moves → applies x ≡ false → applies y ≡ false → StandAlike (x.old).positions (y.old).positions (x.piece).positions (y.piece).positions

-- then two instances of them don't change their order
abbrev pub LeftStay : Type 0
LeftStay = (i : Input) (applies : Move → Bool) (moves : List Move) → LeaveOthers (length i.params) applies moves → OthersStay i applies moves

-- the moves of a command that changes loops
pub data AreMovesOf (k : Kernel) (m : Moves) : Type 0 where
  by_permute : (s : ℕ) (order : List ℕ) → permute_moves k s order ≡ Ok (Some m) → AreMovesOf k m
  by_tile : (s level size outer : ℕ) → tile_moves k s level size outer ≡ Ok m → AreMovesOf k m
  by_skew : (s level : ℕ) (coefs : List ℤ) → skew_moves k s level coefs ≡ Ok (Some m) → AreMovesOf k m
  by_shift : (s level : ℕ) (amount : ℤ) → shift_moves k s level amount ≡ Ok (Some m) → AreMovesOf k m
  by_fuse : (s other level : ℕ) → fuse_moves k s other level ≡ Ok m → AreMovesOf k m
  by_distribute : (s level : ℕ) → distribute_moves k s level ≡ Ok m → AreMovesOf k m
  by_unroll : (s level factor : ℕ) → unrolled k s level factor ≡ Some m → AreMovesOf k m

-- they leave the others
abbrev pub CommandsLeaveOthers : Type 0
CommandsLeaveOthers =
    (k : Kernel) (m : Moves) (moves : List Move) → IsShaped k → AreMovesOf k m → moves_of_all (length k.head.params) k.nests m.pieces ≡ Ok moves
    → LeaveOthers (length k.head.params) (applies_to k m) moves

-- so two instances to which the command doesn't apply don't change their order
abbrev pub OthersOfCommandsStay : Type 0
OthersOfCommandsStay =
    (k : Kernel) (m : Moves) (i : Input) (moves : List Move) → length i.params ≡ length k.head.params → IsShaped k → AreMovesOf k m → moves_of_all (length k.head.params) k.nests m.pieces ≡ Ok moves
    → OthersStay i (applies_to k m) moves
