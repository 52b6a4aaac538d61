-- Why `where` gives each of its answers, and what it writes.
use Rattle.std.specs.Prelude.{◌≡◌, ℕ, List, Some}
use Rattle.chill_base.specs.Outside.{FilesState, SinkState, Shelf, BothTold, Wrote, IsProperFront}
use Rattle.chill_base.specs.declared.faults.Stop.{Stop}
use Rattle.chill_base.specs.declared.faults.Stop.TheVariants.{Refused as StopRefused, NoMemory as StopNoMemory}
use Rattle.token_places.specs.Lines.{line_of, HasFewer}
use Rattle.token_places.specs.declared.marks.TooFew.{TooFew}
use Rattle.command_words.specs.Commands.{locate}
use Rattle.outcomes.specs.declared.outcome.Outcome.{Outcome}
use Rattle.outcomes.specs.declared.outcome.Outcome.TheVariants.{Done, Refused, Usage, ReadFault, WriteFault, NoMemory}
use Rattle.outcomes.specs.declared.outcome.Refusal.{Refusal}
use Rattle.outcomes.specs.declared.outcome.Refusal.TheVariants.{FileLong, Where}
use Rattle.run_jobs.specs.Jobs.{Has, IsLong, IsFaulty, IsAtEnd}
use Rattle.run_jobs.specs.Counts.{Counts}

-- the text is held, and this is the line of its token of that number
pub record IsPlaced (shelf : Shelf) (text : List ℕ) (token : ℕ) (line : List ℕ) : Type 0 where
  pub bytes : List ℕ
  pub has : Has shelf text bytes
  pub is_line : line_of bytes token ≡ Some line

-- the text is held, and has fewer tokens, and so many
pub record IsPast (shelf : Shelf) (text : List ℕ) (token : ℕ) (few : TooFew) : Type 0 where
  pub bytes : List ℕ
  pub has : Has shelf text bytes
  pub fewer : HasFewer bytes token few

-- why a number of a token is refused
abbrev pub IsUnplaced : Shelf → (text : List ℕ) → (token : ℕ) → Refusal → Type 0
IsUnplaced before text token (FileLong file) = (file ≡ 1) × IsLong before text
IsUnplaced before text token (Where few) = IsPast before text token few
IsUnplaced before text token _ = ⊥

-- why `where` gave an answer, over files that tell their bytes; what it wrote
abbrev pub PlaceCause : (text : List ℕ) → (token : ℕ) → (before after : Shelf) → (out out' : SinkState) → Outcome → Type 0
PlaceCause text token before after out out' Done = (line : List ℕ) × IsPlaced before text token line × IsAtEnd after text × Wrote out line out'
PlaceCause text token before after out out' WriteFault =
    (line front : List ℕ) × IsPlaced before text token line × IsProperFront front line × Wrote out front out'
PlaceCause text token before after out out' (ReadFault file) = (file ≡ 1) × IsFaulty before text after
PlaceCause text token before after out out' (Refused refusal) = IsUnplaced before text token refusal
PlaceCause text token before after out out' NoMemory = Unit {0}
PlaceCause text token before after out out' Usage = ⊥

-- an answer of `where`
pub record Locates (text : List ℕ) (token : ℕ) (files files' : FilesState) (out out' : SinkState) (result : Outcome) : Type 0 where
  pub cause : BothTold files.told files'.told (λ before after. PlaceCause text token before after out out' result)
  pub counts : Counts (Some (locate text token)) files files' out out' result

abbrev pub outcome_of_place : Stop TooFew → Outcome
outcome_of_place (StopRefused few) = Refused (Where few)
outcome_of_place StopNoMemory = NoMemory
