-- A worked scene: a source with a matrix, loops over its rows and entries, and a guard, on a matrix of one row with two entries.
use Rattle.std.specs.Prelude.{◌≡◌, ℤ, pos, List, [], if◌then◌else◌, Some}
use Rattle.c_meaning.specs.Examples.{n}
use Rattle.c_meaning.specs.Inputs.{Input}
use Rattle.c_meaning.specs.Names.{Name, same_name, same_numbers, line}
use Rattle.c_meaning.specs.Value.{cell_seen}
use Rattle.nest_laws.specs.Trees.{tree_of, IsFine}
use Rattle.acceptance.specs.Accepted.{kernel_of}
use Rattle.acceptance_laws.specs.Safe.{IsNamed}
use Rattle.acceptance_laws.specs.Systems.{seen}
use Rattle.acceptance_laws.specs.Scene.{IsSceneOf}
use Rattle.worked_acceptance.specs.Examples.{m, z, first_of}
use Rattle.worked_acceptance.specs.Guarded.{guarded}
use Rattle.point_laws.specs.Ranges.{IsRanged}
use Rattle.scene_laws.specs.Inputs.{scene, IsAcceptedOn}

-- one row, two columns and two entries: the row begins at 0 and ends at 2, and its columns are 1 and 0
abbrev pub values : Name → ℤ
values x = if same_name x n then pos 1 else (if same_name x m then pos 2 else (if same_name x z then pos 2 else pos 0))

abbrev pub begins : List ℤ → ℤ
begins at = if same_numbers at (line (pos 1)) then pos 2 else pos 0

abbrev pub columns : List ℤ → ℤ
columns at = if same_numbers at (line (pos 0)) then pos 1 else pos 0

abbrev pub one_row : Input
one_row = record { value = values; index = λ a at. if same_name a first_of then begins at else columns at; cells = λ x. 0 }

-- all premises are met: the source is accepted and keeps the rules, and the input is valid; so its names are in scope, its cells lie in
-- their arrays, the scene keeps its ranges, and nothing has a fault; the row's second begin is read, and it is 2
abbrev pub WorkedScene : Type 0
WorkedScene =
    IsAcceptedOn guarded (kernel_of guarded) one_row × IsNamed guarded (scene guarded one_row) × IsSceneOf guarded (scene guarded one_row) × IsFine (tree_of guarded.executor (scene guarded one_row)) []
    × IsRanged guarded [] (seen guarded (scene guarded one_row)) × (cell_seen (scene guarded one_row).sight first_of (line (pos 1)) ≡ Some (pos 2))
