-- What a command of a recipe has done to a kernel where it is Ok.
use Rattle.std.specs.Prelude.{◌≡◌, List, [], ◌∷◌, slice_get, IfOk, Ok}
use Rattle.nest_tree.specs.declared.kernel.Kernel.{Kernel}
use Rattle.recipe_read.specs.declared.command.Command.{Command}
use Rattle.recipe_read.specs.declared.command.Command.TheVariants.{Permute, Tile, Skew, Shift, Fuse, Distribute, Unroll, Datacopy, MakeDense, Compact, CompactAndPad}
use Rattle.affine_moves.specs.Moves.{permute_moves, tile_moves, skew_moves, shift_moves}
use Rattle.fuse_distribute.specs.Fusing.{fuse_moves}
use Rattle.fuse_distribute.specs.Distributing.{distribute_moves}
use Rattle.unroll.specs.Moves.{unrolled}
use Rattle.affine_commands.specs.Commands.{IsMade, IsMoved, IsUnrolled, is_innermost, untested}
use Rattle.datacopy.specs.Copied.{IsCopied}
use Rattle.make_dense.specs.Judge.{judged_matrix}
use Rattle.make_dense.specs.Dense.{IsDense}
use Rattle.compact.specs.Entered.{IsCompacted}
use Rattle.pad_layouts.specs.Plans.{plan_of}
use Rattle.compact_pad.specs.Padded.{IsPadded}

-- The commands that move instances make the kernel of their moves, and those that may change an order are tested. The others put in what they make: a copy and the
-- statement that fills it, a level for columns, a level over kept values, a padded statement; but for the copy, they are tested too.
abbrev pub IsDone : Kernel → Kernel → Command → Type 0
IsDone old new (Permute s order) = IsMoved old new (permute_moves old s order)
IsDone old new (Tile s level size outer) = IsMade old new (tile_moves old s level size outer)
IsDone old new (Skew s level coefs) = untested old (skew_moves old s level coefs) ≡ Ok new
IsDone old new (Shift s level amount) = IsMoved old new (shift_moves old s level amount)
IsDone old new (Fuse a b level) = IsMade old new (fuse_moves old a b level)
IsDone old new (Distribute s level) = IsMade old new (distribute_moves old s level)
IsDone old new (Unroll s level factor) = IsUnrolled old new (is_innermost level (slice_get old.nests s)) (unrolled old s level factor)
IsDone old new (Datacopy s level array copy) = IsCopied old new s level array copy
IsDone old new (MakeDense s level) = IsDense old new s level (judged_matrix old s level)
IsDone old new (Compact s level name) = IsCompacted old new s level name
IsDone old new (CompactAndPad s level kind name) = IfOk (plan_of old s level kind) (λ p. IsPadded old new s p name)

-- the commands of a list, one behind the other, have made the new kernel of the old one
abbrev pub AllDone : Kernel → List Command → Kernel → Type 0
AllDone old [] new = new ≡ old
AllDone old (command ∷ commands) new = (mid : Kernel) × IsDone old mid command × AllDone mid commands new
