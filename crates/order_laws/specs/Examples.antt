-- A worked command: two statements in one loop, and one in a loop behind it. The loop is split before its second statement.
use Rattle.std.specs.Prelude.{◌≡◌, ℕ, true, false, List, [], ◌∷◌, map, Ok}
use Rattle.nest_tree.specs.declared.kernel.Kernel.{Kernel}
use Rattle.nest_tree.specs.declared.kernel.Nest.{Nest}
use Rattle.nest_tree.specs.declared.moves.Moves.{Moves}
use Rattle.nest_tree.specs.declared.moves.Piece.{Piece}
use Rattle.nest_tree.specs.Moving.{Move}
use Rattle.nest_core.specs.Shapes.{IsShaped}
use Rattle.fuse_distribute.specs.Distributing.{distribute_moves}
use Rattle.kernel_laws.specs.Examples.{head, ones}
use Rattle.move_laws.specs.Moves.{moves_of_all}
use Rattle.tested_laws.specs.Testing.{applies_to}
use Rattle.order_laws.specs.Others.{LeaveOthers}

-- y[i] = 1 for i from 0 to below n, at these positions
abbrev pub ones_at : List ℕ → Nest
ones_at ps = record ones { positions = ps }

abbrev pub kernel : Kernel
kernel = record { head = head; made = []; nests = ones_at (0 ∷ 0 ∷ []) ∷ ones_at (0 ∷ 1 ∷ []) ∷ ones_at (1 ∷ 0 ∷ []) ∷ [] }

-- where the pieces stand
abbrev pub positions_in : Moves → List (List (List ℕ))
positions_in m = map (λ ps. map (λ (p : Piece). p.positions) ps) m.pieces

-- the second statement goes into a loop of its own, the third makes room; the kernel has all that is asked of it; the third is left, and all others that the command doesn't apply to
abbrev pub SplitLoop : Type 0
SplitLoop =
    (m : Moves) × (moves : List Move) × (distribute_moves kernel 1 1 ≡ Ok m) × IsShaped kernel × (moves_of_all 1 kernel.nests m.pieces ≡ Ok moves)
    × (positions_in m ≡ ((0 ∷ 0 ∷ []) ∷ []) ∷ ((1 ∷ 1 ∷ []) ∷ []) ∷ ((2 ∷ 0 ∷ []) ∷ []) ∷ [])
    × (map (applies_to kernel m) moves ≡ true ∷ true ∷ false ∷ []) × LeaveOthers 1 (applies_to kernel m) moves
