-- What a tested command answers by its moves.
use Rattle.std.specs.Prelude.{◌≡◌, ◌⊎◌, ⊤, ℕ, List, Option, Some, Result, Ok, Err, slice_get, IfSome}
use Rattle.chill_base.specs.declared.faults.Stop.{Stop}
use Rattle.chill_base.specs.declared.faults.Stop.TheVariants.{Refused, NoMemory}
use Rattle.int_rows.specs.declared.row.Excess.{Excess}
use Rattle.nest_core.specs.Pieces.{kernel_made}
use Rattle.nest_tree.specs.declared.fault.CommandFault.{CommandFault}
use Rattle.nest_tree.specs.declared.fault.CommandFault.TheVariants.{Shape, Depends, Overflow}
use Rattle.nest_tree.specs.declared.fault.Dependence.{Dependence}
use Rattle.nest_tree.specs.declared.kernel.Kernel.{Kernel}
use Rattle.nest_tree.specs.declared.moves.Moves.{Moves}
use Rattle.depend_test.specs.Candidates.{candidates, IsFirstDependence}
use Rattle.depend_test.specs.First.{IsFirst}
use Rattle.depend_test.specs.Levels.{IsDecidedAt, access_pairs, level_dependence}
use Rattle.depend_test.specs.Sides.{IsSame, AreMoved}
use Rattle.depend_test.specs.declared.side.Side.{Side}
use Rattle.depend_test.specs.declared.side.Moved.{Moved}

-- a limit as the fault of a command
abbrev pub overflow : Stop Excess → Stop CommandFault
overflow (Refused excess) = Refused (Overflow excess)
overflow NoMemory = NoMemory

-- what the test of these moves finds: the dependence of the first open candidate, or none
abbrev pub Finds : Kernel → Moves → Option Dependence → Type 0
Finds k m d = (all : List Moved) × AreMoved k m all × IsFirstDependence k (candidates all) d

abbrev pub IsThere : {A E : Type 0} → Result A E → Type 0
IsThere (Ok x) = ⊤
IsThere (Err e) = ⊥

-- these moves, which are made, are refused for their first dependence, and for no shape; the limit that the making passes comes before any of the test
abbrev pub IsTestFault : Kernel → Moves → CommandFault → Type 0
IsTestFault k m (Shape why) = ⊥
IsTestFault k m (Depends d) = IsThere (kernel_made k m) × Finds k m (Some d)
IsTestFault k m (Overflow e) = (kernel_made k m ≡ Err e) ⊎ IsThere (kernel_made k m)

-- where a call refuses, this holds of the fault
abbrev pub OnRefused : {A E : Type 0} → Result A (Stop E) → (E → Type 0) → Type 0
OnRefused (Ok x) Holds = ⊤
OnRefused (Err (Refused e)) Holds = Holds e
OnRefused (Err NoMemory) Holds = ⊤

-- what the test of a level that is compacted finds
abbrev pub FindsAt : Kernel → ℕ → ℕ → Option Dependence → Type 0
FindsAt k statement level d = IfSome (slice_get k.nests statement) (λ n. (s : Side) × IsSame k.head k.made n s × IsFirst (IsDecidedAt k s level) (level_dependence statement level) (access_pairs s n.how) d)
