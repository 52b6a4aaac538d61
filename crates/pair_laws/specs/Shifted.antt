-- A worked command: y[i] = 1 for i from 0 to below n, shifted by 5.
use Rattle.std.specs.Prelude.{Bool, true, [], ◌∷◌, map, pos, None}
use Rattle.c_tree.specs.declared.statement.How.TheVariants.{Write}
use Rattle.nest_tree.specs.declared.kernel.Kernel.{Kernel}
use Rattle.nest_tree.specs.Lists.{IsIn}
use Rattle.nest_tree.specs.Moving.{Move}
use Rattle.nest_tree.specs.Terms.{Input}
use Rattle.nest_systems.specs.Choosing.{none_chosen}
use Rattle.nest_systems.specs.Statements.{plain_row}
use Rattle.kernel_laws.specs.Examples.{head, ones, by_five, shifted_ones}
use Rattle.move_laws.specs.Unchanged.{NoneChanges}
use Rattle.point_laws.specs.Ranges.{IsRanged}
use Rattle.depend_test.specs.Candidates.{candidates, IsFirstDependence}
use Rattle.depend_test.specs.declared.side.Moved.{Moved}
use Rattle.depend_test.specs.declared.side.Side.{Side}
use Rattle.pair_laws.specs.Changes.{IsTestedMove, OthersStay}

abbrev pub kernel : Kernel
kernel = record { head = head; made = []; nests = ones ∷ [] }

abbrev pub shift : Move
shift = record { old = ones; piece = by_five; new = shifted_ones }

-- n is 3
abbrev pub input : Input
input = record { params = pos 3 ∷ []; cells = λ a at. None }

-- what the test has of the shifted statement, and of the old one
abbrev pub side : Side
side = record {
  instance = record { levels = 1; vars = 2; count = 0; terms = []; chosen = none_chosen 2 0 0; rows = map plain_row shifted_ones.rows; ranges = [] };
  accesses = shifted_ones.target ∷ [];
  old = by_five.old;
  positions = 0 ∷ 0 ∷ [];
}

abbrev pub moved : Moved
moved = record { applies = true; how = Write; accesses = ones.target ∷ []; positions = 0 ∷ 0 ∷ []; sides = side ∷ [] }

abbrev pub applies : Move → Bool
applies x = true

-- the move is tested, its one candidate is excluded, the command applies to all, and so no two instances change their order
abbrev pub ShiftedLoop : Type 0
ShiftedLoop =
    IsRanged head [] input × ((x : Move) → IsIn x (shift ∷ []) → IsTestedMove kernel input applies (moved ∷ []) x) × IsFirstDependence kernel (candidates (moved ∷ [])) None
    × OthersStay input applies (shift ∷ []) × NoneChanges input (shift ∷ [])
