-- What `emit` without commands promises for a source of the first form.
use Rattle.std.specs.Prelude.{◌≡◌, ℕ, List, [], Option, None, Some, Ok}
use Rattle.chill_base.specs.Outside.{FilesState, SinkState, Shelf, Wrote}
use Rattle.outcomes.specs.declared.outcome.Outcome.{Outcome}
use Rattle.outcomes.specs.declared.outcome.Outcome.TheVariants.{Done, Refused, Usage}
use Rattle.command_words.specs.Commands.{Command, emit}
use Rattle.c_tree.specs.declared.program.Program.{Program}
use Rattle.c_loops.specs.Programs.{program_of}
use Rattle.c_meaning.specs.Programs.{list_of}
use Rattle.recipe_read.specs.Recipe as recipes
use Rattle.headline.specs.Headline.{PerformsAsSource}
use Rattle.emission.specs.Emitting.{written_for}
use Rattle.run_jobs.specs.Jobs.{Has}

-- both files are held and within the limit: a recipe without commands, and these bytes, the text of a program of the first form
pub record IsPlain (shelf : Shelf) (recipe source bytes : List ℕ) : Type 0 where
  pub rules : List ℕ
  pub has_recipe : Has shelf recipe rules
  pub empty : recipes.recipe rules ≡ Ok []
  pub has_source : Has shelf source bytes
  pub origin : Program
  pub is_program : program_of bytes ≡ Ok origin
  pub standing : Program
  pub is_first_form : written_for origin ≡ Some standing

-- where files tell their content
abbrev pub IfTold : Option Shelf → (Shelf → Type 0) → Type 0
IfTold None P = Unit {0}
IfTold (Some shelf) P = P shelf

-- what was written is a text that performs as the source does
abbrev pub WrotePromised : List ℕ → SinkState → SinkState → Type 0
WrotePromised bytes out out' = (text : List ℕ) × Wrote out text out' × PerformsAsSource list_of bytes text

-- where the call is done, the bytes that `out` took perform as those of the source
abbrev pub Headline : Option Command → FilesState → SinkState → SinkState → Outcome → Type 0
Headline (Some (emit recipe source)) files out out' Done =
    IfTold files.told (λ shelf. (bytes : List ℕ) → IsPlain shelf recipe source bytes → WrotePromised bytes out out')
Headline words files out out' result = Unit {0}

-- answers that no file's content causes, and that of a call that is done
abbrev pub IsUnrefused : Outcome → Type 0
IsUnrefused (Refused refusal) = ⊥
IsUnrefused Usage = ⊥
IsUnrefused result = Unit {0}

-- such a call is done, unless the outside fails or memory ends
abbrev pub Completes : Option Command → FilesState → Outcome → Type 0
Completes (Some (emit recipe source)) files result =
    IfTold files.told (λ shelf. (bytes : List ℕ) → IsPlain shelf recipe source bytes → IsUnrefused result)
Completes words files result = Unit {0}
