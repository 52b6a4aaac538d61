-- What holds of each answer of a command of two files.
use Rattle.std.specs.Prelude.{◌≡◌, ◌≤◌, ℕ, List, [], Option, None, Some}
use Rattle.chill_base.specs.Outside.{FilesState, SinkState, Rose, BothTold, Wrote}
use Rattle.chill_base.specs.declared.faults.Stop.{Stop}
use Rattle.chill_base.specs.declared.faults.Stop.TheVariants.{Refused as StopRefused, NoMemory as StopNoMemory}
use Rattle.chill_base.specs.declared.whole.Unread.{Unread}
use Rattle.chill_base.specs.declared.whole.Unread.TheVariants.{Fault, Long, NoMemory as Short}
use Rattle.command_words.specs.Commands.{Command, emit, run, trace, work, locate}
use Rattle.outcomes.specs.declared.outcome.Outcome.{Outcome}
use Rattle.outcomes.specs.declared.outcome.Outcome.TheVariants.{Done, Refused, ReadFault, WriteFault, NoMemory}
use Rattle.outcomes.specs.declared.outcome.Refusal.{Refusal}
use Rattle.outcomes.specs.declared.outcome.Refusal.TheVariants.{FileLong}
use Rattle.run_jobs.specs.Jobs.{Job, Cause}
use Rattle.run_jobs.specs.Running.{TraceCause}
use Rattle.text_runs.specs.Tracing.{IsEarlyRefusal}
use Rattle.text_runs.specs.declared.tracing.RunStop.{RunStop}
use Rattle.text_runs.specs.declared.tracing.RunStop.TheVariants.{Refused as RunRefused, WriteFault as RunWriteFault, NoMemory as RunNoMemory}

-- the answers that leave `out` as it was
abbrev pub IsQuiet : Outcome → Type 0
IsQuiet Done = ⊥
IsQuiet WriteFault = ⊥
IsQuiet _ = Unit {0}

-- the same for `trace`, whose executor writes as it goes
abbrev pub IsQuietTrace : Outcome → Type 0
IsQuietTrace Done = ⊥
IsQuietTrace WriteFault = ⊥
IsQuietTrace (Refused refusal) = IsEarlyRefusal refusal
IsQuietTrace _ = Unit {0}

abbrev pub IsQuietFor : Option Command → Outcome → Type 0
IsQuietFor (Some (trace program values)) result = IsQuietTrace result
IsQuietFor (Some (emit recipe source)) result = IsQuiet result
IsQuietFor (Some (run program values)) result = IsQuiet result
IsQuietFor (Some (work seed size)) result = IsQuiet result
IsQuietFor (Some (locate text token)) result = IsQuiet result
IsQuietFor None result = IsQuiet result

abbrev pub IsReadFault : Outcome → Type 0
IsReadFault (ReadFault file) = Unit {0}
IsReadFault _ = ⊥

-- what holds of an answer whether files tell their bytes or not: no count falls, a fault of the outside has a count that
-- rose, and nothing but a text that was made is written, or lines of an executor that is traced
pub record Counts (asked : Option Command) (files files' : FilesState) (out out' : SinkState) (result : Outcome) : Type 0 where
  pub files_later : files.faults ≤ files'.faults
  pub out_later : out.faults ≤ out'.faults
  pub read_fault : IsReadFault result → Rose files.faults files'.faults
  pub write_fault : result ≡ WriteFault → Rose out.faults out'.faults
  pub quiet : IsQuietFor asked result → Wrote out [] out'

-- an answer of a command of two files
pub record Does (job : Job) (asked : Option Command) (one two : List ℕ) (files files' : FilesState) (out out' : SinkState) (result : Outcome) : Type 0 where
  pub cause : BothTold files.told files'.told (λ before after. Cause job one two before after out out' result)
  pub counts : Counts asked files files' out out' result

pub record Traces (one two : List ℕ) (files files' : FilesState) (out out' : SinkState) (result : Outcome) : Type 0 where
  pub cause : BothTold files.told files'.told (λ before after. TraceCause one two before after out out' result)
  pub counts : Counts (Some (trace one two)) files files' out out' result

-- the answer where a file wasn't read whole
abbrev pub outcome_of : ℕ → Unread → Outcome
outcome_of file Fault = ReadFault file
outcome_of file Long = Refused (FileLong file)
outcome_of file Short = NoMemory

abbrev pub outcome_of_stop : Stop Refusal → Outcome
outcome_of_stop (StopRefused refusal) = Refused refusal
outcome_of_stop StopNoMemory = NoMemory

abbrev pub outcome_of_run : RunStop → Outcome
outcome_of_run (RunRefused refusal) = Refused refusal
outcome_of_run RunWriteFault = WriteFault
outcome_of_run RunNoMemory = NoMemory
