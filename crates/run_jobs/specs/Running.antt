-- What `run` and `trace` make of a program and its data.
use Rattle.std.specs.Prelude.{◌≡◌, ◌⊎◌, ℕ, List}
use Rattle.chill_base.specs.Outside.{SinkState, Shelf, Wrote, IsProperFront}
use Rattle.c_loops.specs.Programs.{program_of}
use Rattle.outcomes.specs.Refusing.{ProgramCause}
use Rattle.outcomes.specs.declared.outcome.Outcome.{Outcome}
use Rattle.outcomes.specs.declared.outcome.Outcome.TheVariants.{Done, Refused, Usage, ReadFault, WriteFault, NoMemory}
use Rattle.text_runs.specs.Running.{IsProgramText, RunMakes, RunDenies}
use Rattle.text_runs.specs.Tracing.{TraceDone, TraceBegun, traced_text}
use Rattle.run_jobs.specs.Jobs.{Job, IsText, Passed, IsFaulty, IsAtEnd, RefusalCause}

abbrev pub running : Job
running = record {
  passes = IsProgramText;
  refuses = λ source refusal. ProgramCause (program_of source) refusal;
  makes = RunMakes;
  denies = RunDenies;
}

-- A traced run makes the text of its lines, and writes it as it goes. Behind both texts a refusal, by the data or by the
-- run's fault, leaves the lines before it written.
abbrev pub tracing : (List ℕ → List ℕ → Type 0) → (out out' : SinkState) → Job
tracing Makes out out' = record {
  passes = IsProgramText;
  refuses = λ source refusal. ProgramCause (program_of source) refusal;
  makes = λ source input text. Makes source input × (text ≡ traced_text source input);
  denies = λ source input refusal. RunDenies source input refusal × Wrote out (traced_text source input) out';
}

-- why `trace` gave an answer, over files that tell their bytes, and what it wrote
abbrev pub TraceCause : (one two : List ℕ) → (before after : Shelf) → (out out' : SinkState) → Outcome → Type 0
TraceCause one two before after out out' Done =
    (text : List ℕ) × IsText (tracing TraceDone out out') before one two text × IsAtEnd after two × Wrote out text out'
TraceCause one two before after out out' WriteFault =
    (text front : List ℕ) × IsText (tracing TraceBegun out out') before one two text × IsProperFront front text × Wrote out front out'
TraceCause one two before after out out' (ReadFault file) =
    ((file ≡ 1) × IsFaulty before one after) ⊎ ((file ≡ 2) × Passed running before one × IsFaulty before two after)
TraceCause one two before after out out' (Refused refusal) = RefusalCause (tracing TraceDone out out') before one two refusal
TraceCause one two before after out out' NoMemory = Unit {0}
TraceCause one two before after out out' Usage = ⊥
