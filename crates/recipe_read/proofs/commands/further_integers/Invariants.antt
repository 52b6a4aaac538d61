use Rattle.std.proofs.Common.{length}
use Rattle.recipe_read.specs.Cursor.{integer}
use Rattle.recipe_read.specs.Commands.{further}
use Rattle.recipe_read.proofs.Lists.{Goes}
use Rattle.recipe_read.proofs.commands.further_integers.Given as goal

abbrev pub invariant-loop-found : goal.invariant-loop-found
invariant-loop-found l = Goes integer l.found l.line (further integer l.initial.found l.initial.line)

abbrev pub decreases-loop-found : goal.decreases-loop-found
decreases-loop-found l = length l.line
