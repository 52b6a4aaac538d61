-- What the top call answers.
use Rattle.std.specs.Prelude.{ℕ, List, Option, None, Some}
use Rattle.chill_base.specs.Outside.{FilesState, SinkState, BothTold, Wrote, IsProperFront}
use Rattle.outcomes.specs.declared.outcome.Outcome.{Outcome}
use Rattle.outcomes.specs.declared.outcome.Outcome.TheVariants.{Done, Refused, Usage, ReadFault, WriteFault, NoMemory}
use Rattle.command_words.specs.Commands.{Command, emit, run, trace, work, locate}
use Rattle.run_jobs.specs.Jobs.{Cause}
use Rattle.run_jobs.specs.Running.{running, TraceCause}
use Rattle.run_jobs.specs.Locating.{PlaceCause}
use Rattle.measured_run.specs.Work.{Measured, WorkCause}
use Rattle.measured_run.specs.declared.making.TheConstants.{RECIPE, SOURCE}
use Rattle.chill_top.specs.Emitting.{emitting}

-- words of no command are `Usage`, or find no memory
abbrev pub IsNoCommand : Outcome → Type 0
IsNoCommand Usage = Unit {0}
IsNoCommand NoMemory = Unit {0}
IsNoCommand _ = ⊥

-- why `work` gave an answer, and what it wrote
abbrev pub WorkAnswer : ℕ → (out out' : SinkState) → Outcome → Type 0
WorkAnswer size out out' Done = (text : List ℕ) × Measured RECIPE.now SOURCE.now size text × Wrote out text out'
WorkAnswer size out out' WriteFault = (text front : List ℕ) × Measured RECIPE.now SOURCE.now size text × IsProperFront front text × Wrote out front out'
WorkAnswer size out out' (Refused refusal) = WorkCause RECIPE.now SOURCE.now refusal
WorkAnswer size out out' NoMemory = Unit {0}
WorkAnswer size out out' (ReadFault file) = ⊥
WorkAnswer size out out' Usage = ⊥

-- the answer of the words
abbrev pub Answers : Option Command → (files files' : FilesState) (out out' : SinkState) → Outcome → Type 0
Answers None files files' out out' result = IsNoCommand result
Answers (Some (emit recipe source)) files files' out out' result =
    BothTold files.told files'.told (λ before after. Cause emitting recipe source before after out out' result)
Answers (Some (run program values)) files files' out out' result =
    BothTold files.told files'.told (λ before after. Cause running program values before after out out' result)
Answers (Some (trace program values)) files files' out out' result =
    BothTold files.told files'.told (λ before after. TraceCause program values before after out out' result)
Answers (Some (work seed size)) files files' out out' result = WorkAnswer size out out' result
Answers (Some (locate text token)) files files' out out' result =
    BothTold files.told files'.told (λ before after. PlaceCause text token before after out out' result)
