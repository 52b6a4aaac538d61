-- What a command answers by its moves, and what it leaves.
use Rattle.std.specs.Prelude.{◌≡◌, ◌⊎◌, ⊤, ℕ, Bool, false, nat_eq, length, IsFalse, Option, Some, None, Result, Ok, Err}
use Rattle.chill_base.specs.declared.faults.Stop.{Stop}
use Rattle.chill_base.specs.declared.faults.Stop.TheVariants.{Refused, NoMemory}
use Rattle.nest_tree.specs.declared.fault.CommandFault.{CommandFault}
use Rattle.nest_tree.specs.declared.fault.CommandFault.TheVariants.{Shape, Depends, Overflow}
use Rattle.nest_tree.specs.declared.fault.ShapeWhy.{ShapeWhy}
use Rattle.int_rows.specs.declared.row.Excess.{Excess}
use Rattle.nest_core.specs.Making.{after}
use Rattle.nest_tree.specs.declared.kernel.Kernel.{Kernel}
use Rattle.nest_tree.specs.declared.kernel.Nest.{Nest}
use Rattle.nest_tree.specs.declared.moves.Moves.{Moves}
use Rattle.nest_core.specs.Pieces.{kernel_made}
use Rattle.depend_test.specs.Tested.{Finds, IsTestFault, OnRefused}

abbrev pub shape_fault : Stop ShapeWhy → Stop CommandFault
shape_fault (Refused why) = Refused (Shape why)
shape_fault NoMemory = NoMemory

abbrev pub overflow_fault : Stop Excess → Stop CommandFault
overflow_fault (Refused excess) = Refused (Overflow excess)
overflow_fault NoMemory = NoMemory

-- these moves make the new kernel of the old one, and no candidate for a dependence is open
abbrev pub IsTestedMove : Kernel → Kernel → Moves → Type 0
IsTestedMove old new m = (kernel_made old m ≡ Ok new) × Finds old m None

-- the new kernel is the one that these moves make of the old one, and they are tested
abbrev pub IsMade : Kernel → Kernel → Result Moves ShapeWhy → Type 0
IsMade old new (Ok m) = IsTestedMove old new m
IsMade old new (Err why) = ⊥

-- so, or it is the old one where there is nothing to move
abbrev pub IsMoved : Kernel → Kernel → Result (Option Moves) ShapeWhy → Type 0
IsMoved old new (Ok (Some m)) = IsTestedMove old new m
IsMoved old new (Ok None) = new ≡ old
IsMoved old new (Err why) = ⊥

-- where there are no moves, their shape is what the command answers, unless there is no memory; where there are, a fault is one that such moves have
abbrev pub Refuses : {A : Type 0} → (A → CommandFault → Type 0) → Result A ShapeWhy → Result (Unit {0}) (Stop CommandFault) → Type 0
Refuses IsFault (Ok m) result = OnRefused result (IsFault m)
Refuses IsFault (Err why) (Ok u) = ⊥
Refuses IsFault (Err why) (Err stop) = (stop ≡ Refused (Shape why)) ⊎ (stop ≡ NoMemory)

-- where nothing moves, nothing is refused
abbrev pub IsMovedFault : Kernel → Option Moves → CommandFault → Type 0
IsMovedFault old (Some m) fault = IsTestFault old m fault
IsMovedFault old None fault = ⊥

-- ---- a command without a test, whose answer is exact
abbrev pub overflowed : {A : Type 0} → Result A Excess → Result A CommandFault
overflowed (Ok x) = Ok x
overflowed (Err excess) = Err (Overflow excess)

abbrev pub shaped : {A : Type 0} → Result A ShapeWhy → Result A CommandFault
shaped (Ok x) = Ok x
shaped (Err why) = Err (Shape why)

-- the kernel after the moves, where there are any
abbrev pub kernel_after : Kernel → Option Moves → Result Kernel CommandFault
kernel_after k None = Ok k
kernel_after k (Some m) = overflowed (kernel_made k m)

-- the kernel after an untested command of these moves, or its fault
abbrev pub untested : Kernel → Result (Option Moves) ShapeWhy → Result Kernel CommandFault
untested k moves = after (shaped moves) (kernel_after k)

-- ---- unroll
-- no loop stands inside the level's
abbrev pub is_innermost : ℕ → Option Nest → Bool
is_innermost level (Some n) = nat_eq (length n.levels) level
is_innermost level None = false

-- the new kernel is the one that the moves make of the old one, and they are tested unless the level is innermost
abbrev pub IsUnrolled : Kernel → Kernel → Bool → Option Moves → Type 0
IsUnrolled old new innermost None = ⊥
IsUnrolled old new innermost (Some m) = (kernel_made old m ≡ Ok new) × (IsFalse innermost → Finds old m None)

abbrev pub HasSome : {A : Type 0} → Option A → (A → Type 0) → Type 0
HasSome None Holds = ⊥
HasSome (Some x) Holds = Holds x

-- a dependence that is named is the first one of the moves, of a level that isn't innermost
abbrev pub IsUnrollFault : Kernel → Bool → Option Moves → CommandFault → Type 0
IsUnrollFault old innermost moves (Shape why) = ⊤
IsUnrollFault old innermost moves (Depends d) = IsFalse innermost × HasSome moves (λ m. IsTestFault old m (Depends d))
IsUnrollFault old innermost moves (Overflow excess) = ⊤

-- a command that isn't tested: where it is refused, that is for no dependence
abbrev pub NamesNoDependence : {A : Type 0} → Result A (Stop CommandFault) → Type 0
NamesNoDependence (Ok x) = ⊤
NamesNoDependence (Err (Refused (Shape why))) = ⊤
NamesNoDependence (Err (Refused (Depends d))) = ⊥
NamesNoDependence (Err (Refused (Overflow excess))) = ⊤
NamesNoDependence (Err NoMemory) = ⊤
