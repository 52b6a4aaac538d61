-- Law of pieces: the moves that they make are those of the kernel that they make.
use Rattle.std.specs.Prelude.{◌≡◌, List, Ok}
use Rattle.nest_tree.specs.declared.kernel.Kernel.{Kernel}
use Rattle.nest_tree.specs.declared.kernel.Nest.{Nest}
use Rattle.nest_tree.specs.declared.moves.Moves.{Moves}
use Rattle.nest_tree.specs.Lists.{IsIn}
use Rattle.nest_tree.specs.Moving.{Move, IsMade}
use Rattle.nest_core.specs.Pieces.{kernel_made}
use Rattle.kernel_promise.specs.Moved.{new_nests, moves_made}

-- the kernel with other statements
abbrev pub with_nests : Kernel → List Nest → Kernel
with_nests k ns = record { head = k.head; made = k.made; nests = ns }

-- The moves are of the old statements, and make the statements of the new kernel, in their order and each at the positions of its
-- piece.
pub record MakeKernel (k : Kernel) (m : Moves) (moves : List Move) : Type 0 where
  pub kernel : kernel_made k m ≡ Ok (with_nests k (new_nests moves))
  pub made : IsMade moves k.nests (new_nests moves)
  pub positions : (x : Move) → IsIn x moves → (x.new).positions ≡ (x.piece).positions

-- there are moves exactly where there is a kernel
abbrev pub MovesMakeKernel : Type 0
MovesMakeKernel =
    (k : Kernel) (m : Moves) → ((moves : List Move) → moves_made k m ≡ Ok moves → MakeKernel k m moves) × ((new : Kernel) → kernel_made k m ≡ Ok new → (moves : List Move) × (moves_made k m ≡ Ok moves))
