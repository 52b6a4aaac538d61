-- What a command moves in a kernel.
use Rattle.std.specs.Prelude.{Option, Some, None, Result, Ok, Err}
use Rattle.nest_tree.specs.declared.fault.ShapeWhy.{ShapeWhy}
use Rattle.nest_tree.specs.declared.kernel.Kernel.{Kernel}
use Rattle.nest_tree.specs.declared.moves.Moves.{Moves}

-- A command leaves each instance at its place, or takes each to another by pieces of its statement. Or it does neither: it is
-- refused, or it changes the data, and then no list is prescribed here.
pub data Motion : Type 0 where
  still : Motion
  moving : Moves → Motion
  none : Motion

-- what a command does depends on the kernel that it is applied to
abbrev pub Command : Type 0
Command = Kernel → Motion

-- the pieces of a command, or a shape for which it is refused
abbrev pub of_moves : Result Moves ShapeWhy → Motion
of_moves (Ok m) = moving m
of_moves (Err why) = none

-- a command may find nothing to move, as a permutation that leaves each level where it is
abbrev pub of_some_moves : Result (Option Moves) ShapeWhy → Motion
of_some_moves (Ok (Some m)) = moving m
of_some_moves (Ok None) = still
of_some_moves (Err why) = none

abbrev pub of_found_moves : Option Moves → Motion
of_found_moves (Some m) = moving m
of_found_moves None = none
