-- Where `run` is done on a source and on a text that performs as the source does, both give the same bytes.
use Rattle.std.specs.Prelude.{◌≡◌, ◌⊎◌, ℕ, List}
use Rattle.c_loops.specs.Programs.{program_of}
use Rattle.c_meaning.specs.Programs.{list_of}
use Rattle.headline.specs.Examples.{copy_source, copy_text}
use Rattle.headline.specs.Headline.{Prescription, PerformsAsSource}
use Rattle.outcomes.specs.Refusing.{ProgramCause}
use Rattle.outcomes.specs.declared.outcome.Refusal.{Refusal}
use Rattle.text_runs.specs.Running.{RunMakes, RunDenies}
use Rattle.input_laws.specs.Examples.{copied_text, copied_output}

-- what `run` makes of the source and of the text on one data text
abbrev pub SameBytes : Type 0
SameBytes =
    (prescribed : Prescription) (source text input : List ℕ) → PerformsAsSource prescribed source text
    → (bytes others : List ℕ) → RunMakes source input bytes → RunMakes text input others → bytes ≡ others

-- where it makes something of the source, it has no cause to refuse the text
abbrev pub NoneIsDenied : Type 0
NoneIsDenied =
    (prescribed : Prescription) (source text input : List ℕ) → PerformsAsSource prescribed source text
    → (bytes : List ℕ) → RunMakes source input bytes → (r : Refusal) → ProgramCause (program_of text) r ⊎ RunDenies text input r → ⊥

-- a loop that copies an array, and the text that is written for it: on one data text both give these bytes
abbrev pub WorkedBytes : Type 0
WorkedBytes = PerformsAsSource list_of copy_source copy_text × RunMakes copy_source copied_text copied_output × RunMakes copy_text copied_text copied_output
