-- How a command of a recipe is refused.
use Rattle.std.specs.Prelude.{◌≡◌, ⊤, Result, Ok, Err, slice_get}
use Rattle.chill_base.specs.declared.faults.Stop.{Stop}
use Rattle.chill_base.specs.declared.faults.Stop.TheVariants.{Refused, NoMemory}
use Rattle.nest_tree.specs.declared.fault.CommandFault.{CommandFault}
use Rattle.nest_tree.specs.declared.kernel.Kernel.{Kernel}
use Rattle.recipe_read.specs.declared.command.Command.{Command}
use Rattle.recipe_read.specs.declared.command.Command.TheVariants.{Permute, Tile, Skew, Shift, Fuse, Distribute, Unroll, Datacopy, MakeDense, Compact, CompactAndPad}
use Rattle.affine_moves.specs.Moves.{permute_moves, tile_moves, skew_moves, shift_moves}
use Rattle.fuse_distribute.specs.Fusing.{fuse_moves}
use Rattle.fuse_distribute.specs.Distributing.{distribute_moves}
use Rattle.affine_commands.specs.Commands.{Refuses, IsMovedFault, IsUnrollFault, is_innermost, untested}
use Rattle.depend_test.specs.Tested.{IsTestFault, OnRefused}
use Rattle.unroll.specs.Moves.{unrolled}
use Rattle.datacopy.specs.Copied as copied
use Rattle.make_dense.specs.Judge.{judged_matrix}
use Rattle.make_dense.specs.Dense as dense
use Rattle.compact.specs.Faults as compacted
use Rattle.pad_layouts.specs.Plans.{plan_of}
use Rattle.compact_pad.specs.Answers as padded

-- a refusal is the one that is determined
abbrev pub IsFaultOf : {A : Type 0} → Result A CommandFault → Result (Unit {0}) (Stop CommandFault) → Type 0
IsFaultOf determined (Ok u) = ⊤
IsFaultOf determined (Err (Refused fault)) = determined ≡ Err fault
IsFaultOf determined (Err NoMemory) = ⊤

-- Where a condition of a command isn't met, it answers by the lowest one; of `datacopy` this is said of the conditions that are
-- looked at before anything is made. What `skew` answers is determined. A dependence that a tested command names is the first that
-- its test finds; where its conditions are met it answers no shape, but for `unroll`. An innermost `unroll` and padded rows name none.
abbrev pub Answers : Kernel → Command → Result (Unit {0}) (Stop CommandFault) → Type 0
Answers old (Permute s order) result = Refuses (IsMovedFault old) (permute_moves old s order) result
Answers old (Tile s level size outer) result = Refuses (IsTestFault old) (tile_moves old s level size outer) result
Answers old (Skew s level coefs) result = IsFaultOf (untested old (skew_moves old s level coefs)) result
Answers old (Shift s level amount) result = Refuses (IsMovedFault old) (shift_moves old s level amount) result
Answers old (Fuse a b level) result = Refuses (IsTestFault old) (fuse_moves old a b level) result
Answers old (Distribute s level) result = Refuses (IsTestFault old) (distribute_moves old s level) result
Answers old (Unroll s level factor) result = OnRefused result (IsUnrollFault old (is_innermost level (slice_get old.nests s)) (unrolled old s level factor))
Answers old (Datacopy s level array copy) result = copied.AnswersFirst (copied.first_shape old s level array) result
Answers old (MakeDense s level) result = dense.Refuses (dense.IsDenseFault old s level) (judged_matrix old s level) result
Answers old (Compact s level name) result = compacted.AnswersFirst old s level name (compacted.judged_shape old s level name) result
Answers old (CompactAndPad s level kind name) result = padded.AnswersFirst old s name (plan_of old s level kind) result
