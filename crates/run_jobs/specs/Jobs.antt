-- What a command of two files does, and why it gives each of its answers.
use Rattle.std.specs.Prelude.{◌≡◌, ◌≤◌, ◌<◌, ◌⊎◌, ℕ, List, [], length, Some, None}
use Rattle.chill_base.specs.Outside.{SinkState, Shelf, Rose, Wrote, IsProperFront}
use Rattle.chill_base.specs.declared.whole.TheConstants.{FILE_LIMIT}
use Rattle.outcomes.specs.declared.outcome.Outcome.{Outcome}
use Rattle.outcomes.specs.declared.outcome.Outcome.TheVariants.{Done, Refused, Usage, ReadFault, WriteFault, NoMemory}
use Rattle.outcomes.specs.declared.outcome.Refusal.{Refusal}
use Rattle.outcomes.specs.declared.outcome.Refusal.TheVariants.{FileLong}

-- what a command makes of the bytes of its two files
pub record Job : Type 1 where
  -- the first file's bytes pass, or are refused so
  pub passes : List ℕ → Type 0
  pub refuses : List ℕ → Refusal → Type 0
  -- behind a first file that passes: the text that is made of both, or the refusal
  pub makes : List ℕ → List ℕ → List ℕ → Type 0
  pub denies : List ℕ → List ℕ → Refusal → Type 0

-- a file is held and within the limit, with these bytes
pub record Has (shelf : Shelf) (name bytes : List ℕ) : Type 0 where
  pub held : shelf.held name ≡ Some bytes
  pub short : length bytes ≤ FILE_LIMIT

-- a file is held and too long
pub record IsLong (shelf : Shelf) (name : List ℕ) : Type 0 where
  pub bytes : List ℕ
  pub held : shelf.held name ≡ Some bytes
  pub long : FILE_LIMIT < length bytes

-- a file isn't held, or it broke in this call
abbrev pub IsFaulty : Shelf → List ℕ → Shelf → Type 0
IsFaulty before name after = (before.held name ≡ None) ⊎ Rose (before.breaks name) (after.breaks name)

-- the first file was read and passes
pub record Passed (job : Job) (shelf : Shelf) (one : List ℕ) : Type 0 where
  pub bytes : List ℕ
  pub has : Has shelf one bytes
  pub passes : job.passes bytes

-- both files were read, and this is the text that is made of them
pub record IsText (job : Job) (shelf : Shelf) (one two text : List ℕ) : Type 0 where
  pub first : List ℕ
  pub has_first : Has shelf one first
  pub passes : job.passes first
  pub second : List ℕ
  pub has_second : Has shelf two second
  pub makes : job.makes first second text

-- nothing of the file is left
pub record IsAtEnd (shelf : Shelf) (name : List ℕ) : Type 0 where
  pub opened : shelf.opened ≡ Some name
  pub left : shelf.left ≡ []

-- the first file is refused so
pub record IsRefused (job : Job) (shelf : Shelf) (one : List ℕ) (refusal : Refusal) : Type 0 where
  pub bytes : List ℕ
  pub has : Has shelf one bytes
  pub refuses : job.refuses bytes refusal

-- behind a first file that passes, the second one is refused so
pub record IsDenied (job : Job) (shelf : Shelf) (one two : List ℕ) (refusal : Refusal) : Type 0 where
  pub first : List ℕ
  pub has_first : Has shelf one first
  pub passes : job.passes first
  pub second : List ℕ
  pub has_second : Has shelf two second
  pub denies : job.denies first second refusal

-- a file is refused as too long, the second one behind a first that passes
abbrev pub IsTooLong : Job → (before : Shelf) → (one two : List ℕ) → Refusal → Type 0
IsTooLong job before one two (FileLong file) = ((file ≡ 1) × IsLong before one) ⊎ ((file ≡ 2) × Passed job before one × IsLong before two)
IsTooLong job before one two refusal = ⊥

-- why a refusal was answered
abbrev pub RefusalCause : Job → (before : Shelf) → (one two : List ℕ) → Refusal → Type 0
RefusalCause job before one two refusal =
    IsTooLong job before one two refusal ⊎ (IsRefused job before one refusal ⊎ IsDenied job before one two refusal)

-- why a command of two files gave an answer, over files that tell their bytes; what it wrote
abbrev pub Cause : Job → (one two : List ℕ) → (before after : Shelf) → (out out' : SinkState) → Outcome → Type 0
Cause job one two before after out out' Done = (text : List ℕ) × IsText job before one two text × IsAtEnd after two × Wrote out text out'
Cause job one two before after out out' WriteFault =
    (text front : List ℕ) × IsText job before one two text × IsProperFront front text × Wrote out front out'
Cause job one two before after out out' (ReadFault file) =
    ((file ≡ 1) × IsFaulty before one after) ⊎ ((file ≡ 2) × Passed job before one × IsFaulty before two after)
Cause job one two before after out out' (Refused refusal) = RefusalCause job before one two refusal
Cause job one two before after out out' NoMemory = Unit {0}
Cause job one two before after out out' Usage = ⊥
