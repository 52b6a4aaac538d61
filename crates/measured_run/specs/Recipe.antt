-- The commands of the block recipe.
use Rattle.std.specs.Prelude.{List, [], ◌∷◌, codes}
use Rattle.chill_base.specs.declared.padding.Padding.TheVariants.{Block}
use Rattle.recipe_read.specs.declared.command.Command.{Command}
use Rattle.recipe_read.specs.declared.command.Command.TheVariants.{MakeDense, Tile, CompactAndPad}

-- columns become dense, rows and columns are cut by twos, and the blocks are stored
abbrev pub block_commands : List Command
block_commands = MakeDense 0 2 ∷ Tile 0 1 2 1 ∷ Tile 0 3 2 2 ∷ CompactAndPad 0 2 Block (codes "b") ∷ []
