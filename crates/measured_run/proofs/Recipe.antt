-- The block recipe is read, so that it is no cause of a refusal.
use Rattle.std.proofs.Common.{◌≡◌, List, ℕ, Ok, Err, IfErr, refl, subst, inl, inr}
use Rattle.std.specs.Prelude.{Result}
use Rattle.chill_base.specs.declared.faults.Stop.{Stop}
use Rattle.chill_base.specs.declared.faults.Stop.TheVariants.{Refused, NoMemory}
use Rattle.recipe_read.specs.declared.command.Command.{Command}
use Rattle.recipe_read.specs.declared.recipe.RecipeFault.{RecipeFault}
use Rattle.recipe_read.specs.Recipe.{recipe, line, is_bad, said}
use Rattle.recipe_read.specs.Cursor.{trim, sees, after, sign, value, number_of, number_here, number, integer, command_word, name, layout}
use Rattle.recipe_read.specs.Words.{verb_of, padding_of, is_reserved, name_of}
use Rattle.recipe_read.specs.Commands.{first, next, next_name, tile, make_dense, compact_and_pad, command}
use Rattle.emission.specs.Emitting.{RecipeCause, EmitCause}
use Rattle.outcomes.specs.declared.outcome.Refusal.{Refusal}
use Rattle.outcomes.specs.Refusing.{IfRefused}
use Rattle.measured_run.specs.declared.making.TheConstants.{RECIPE}
use Rattle.measured_run.specs.Recipe.{block_commands}
use Rattle.measured_run.specs.Work.{WorkCause}

pub is_read : recipe RECIPE.now ≡ Ok block_commands
unfolding recipe line is_bad said trim sees after sign value number_of number_here number integer command_word name layout verb_of padding_of is_reserved name_of first next next_name tile make_dense compact_and_pad command
is_read = refl

-- so what is refused is refused behind it
pub behind_recipe : {A : Type 0} (source : List ℕ) (result : Result A (Stop Refusal)) → IfErr result (IfRefused (EmitCause RECIPE.now source)) → IfErr result (IfRefused (WorkCause RECIPE.now source))
behind_recipe source (Ok text) h = tt
behind_recipe source (Err NoMemory) h = tt
behind_recipe source (Err (Refused r)) (inl h) = absurd (subst (λ (o : Result (List Command) RecipeFault). RecipeCause o r) is_read h)
behind_recipe source (Err (Refused r)) (inr h) = inl h
