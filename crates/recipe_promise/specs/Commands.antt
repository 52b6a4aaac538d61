-- What each command of a recipe moves in a kernel, and the list that a recipe prescribes.
use Rattle.std.specs.Prelude.{List, map}
use Rattle.c_tree.specs.declared.program.Program.{Program}
use Rattle.c_meaning.specs.Inputs.{Input}
use Rattle.nest_tree.specs.declared.kernel.Kernel.{Kernel}
use Rattle.affine_moves.specs.Moves.{permute_moves, tile_moves, skew_moves, shift_moves}
use Rattle.fuse_distribute.specs.Fusing.{fuse_moves}
use Rattle.fuse_distribute.specs.Distributing.{distribute_moves}
use Rattle.unroll.specs.Moves.{unrolled}
use Rattle.recipe_read.specs.declared.command.Command.{Command}
use Rattle.recipe_read.specs.declared.command.Command.TheVariants.{Permute, Tile, Skew, Shift, Fuse, Distribute, Unroll, Datacopy, MakeDense, Compact, CompactAndPad}
use Rattle.kernel_promise.specs.Motions.{Motion, none, of_moves, of_some_moves, of_found_moves}
use Rattle.kernel_promise.specs.Prescribed.{Items, IsPrescribed}

-- The last four change the data, and no list is prescribed for them here.
abbrev pub motion_of : Command → Kernel → Motion
motion_of (Permute s order) k = of_some_moves (permute_moves k s order)
motion_of (Tile s level size outer) k = of_moves (tile_moves k s level size outer)
motion_of (Skew s level coefs) k = of_some_moves (skew_moves k s level coefs)
motion_of (Shift s level amount) k = of_some_moves (shift_moves k s level amount)
motion_of (Fuse a b level) k = of_moves (fuse_moves k a b level)
motion_of (Distribute s level) k = of_moves (distribute_moves k s level)
motion_of (Unroll s level factor) k = of_found_moves (unrolled k s level factor)
motion_of (Datacopy s level array copy) k = none
motion_of (MakeDense s level) k = none
motion_of (Compact s level name) k = none
motion_of (CompactAndPad s level kind name) k = none

-- the list that a recipe prescribes for a source on an input
abbrev pub IsPrescribedBy : Program → List Command → Input → Items → Type 0
IsPrescribedBy p cs i ys = IsPrescribed p (map motion_of cs) i ys
