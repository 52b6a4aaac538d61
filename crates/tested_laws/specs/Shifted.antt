-- The worked command of `pair_laws`, by the code's own definitions: y[i] = 1 for i from 0 to below n, shifted by 5.
use Rattle.std.specs.Prelude.{◌≡◌, true, [], ◌∷◌, Ok}
use Rattle.nest_tree.specs.declared.moves.Moves.{Moves}
use Rattle.nest_core.specs.Pieces.{kernel_made}
use Rattle.kernel_laws.specs.Examples.{head, by_five, shifted_ones}
use Rattle.move_laws.specs.Unchanged.{NoneChanges}
use Rattle.pair_laws.specs.Shifted.{kernel, shift, input}
use Rattle.tested_laws.specs.Testing.{IsFoundFree}

abbrev pub by_command : Moves
by_command = record { pieces = (by_five ∷ []) ∷ []; applies = true ∷ [] }

-- the code's pieces make the shifted statement, its test finds none with all premises, and no two instances change their order
abbrev pub ShiftedCommand : Type 0
ShiftedCommand =
    (kernel_made kernel by_command ≡ Ok (record { head = head; made = []; nests = shifted_ones ∷ [] })) × IsFoundFree kernel by_command input (shift ∷ []) × NoneChanges input (shift ∷ [])
