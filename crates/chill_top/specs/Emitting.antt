-- What `emit` makes of a recipe and a source.
use Rattle.recipe_read.specs.Recipe as recipes
use Rattle.emission.specs.Emitting.{IsRecipe, RecipeCause, Emits, Denies}
use Rattle.run_jobs.specs.Jobs.{Job}

abbrev pub emitting : Job
emitting = record {
  passes = IsRecipe;
  refuses = λ recipe refusal. RecipeCause (recipes.recipe recipe) refusal;
  makes = Emits;
  denies = Denies;
}
