use Rattle.std.proofs.Common.{length}
use Rattle.recipe_read.proofs.Recipes.{IsRead}
use Rattle.recipe_read.proofs.recipe.read_recipe.Given as goal

abbrev pub invariant-loop-rest : goal.invariant-loop-rest
invariant-loop-rest l = IsRead l.text l.rest l.number l.count l.commands

abbrev pub decreases-loop-rest : goal.decreases-loop-rest
decreases-loop-rest l = length l.rest
