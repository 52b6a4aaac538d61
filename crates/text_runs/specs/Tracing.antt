-- What a traced run of the program of a text is on a data text.
use Rattle.std.specs.Prelude.{◌≡◌, ◌⊎◌, ℕ, List, [], true, Result, Ok, Err}
use Rattle.chill_base.specs.Outside.{SinkState, Wrote}
use Rattle.c_judge.specs.declared.faults.ProgramFault.{ProgramFault}
use Rattle.c_tree.specs.declared.program.Program.{Program}
use Rattle.c_loops.specs.Programs.{program_of}
use Rattle.c_run.specs.Sections.{IsCut}
use Rattle.csr_data.specs.Lines.{Given, Said}
use Rattle.csr_data.specs.Matrices.{says}
use Rattle.outcomes.specs.Refusing.{ProgramCause}
use Rattle.outcomes.specs.declared.outcome.Refusal.{Refusal}
use Rattle.outcomes.specs.declared.outcome.Refusal.TheVariants as refusal
use Rattle.program_run.specs.Runs.{IsDone, trace_lines, is_inspector, section_of}
use Rattle.text_runs.specs.declared.tracing.RunStop.{RunStop}
use Rattle.text_runs.specs.declared.tracing.RunStop.TheVariants.{Refused, WriteFault, NoMemory}
use Rattle.text_runs.specs.Running.{RunCause, RunDenies}

-- the lines of a run on what a data text says; a text that gives no values has none
abbrev pub lines_said : Program → Said → List ℕ
lines_said p (Ok given) = trace_lines p given.params given.arrays
lines_said p (Err fault) = []

abbrev pub lines_on : Program → List ℕ → List ℕ
lines_on p input = lines_said p (says p input)

abbrev pub lines_read : Result Program ProgramFault → List ℕ → List ℕ
lines_read (Ok p) input = lines_on p input
lines_read (Err fault) input = []

-- the lines of the assignments that the program of a source makes on a data text, up to the end or the fault of its run
abbrev pub traced_text : (source input : List ℕ) → List ℕ
traced_text source input = lines_read (program_of source) input

-- the data text gives values
pub record Begins (p : Program) (input : List ℕ) : Type 0 where
  pub given : Given
  pub says : says p input ≡ Ok given

-- the data text gives values on which the program runs without a fault
pub record Runs (p : Program) (input : List ℕ) : Type 0 where
  pub given : Given
  pub says : says p input ≡ Ok given
  pub done : IsDone p given.params given.arrays

abbrev pub TellsOn : Program → List ℕ → SinkState → SinkState → Result (Unit {0}) RunStop → Type 0
TellsOn p input s s' (Ok u) = Runs p input × Wrote s (lines_on p input) s'
TellsOn p input s s' (Err (Refused r)) = RunCause p input r × Wrote s (lines_on p input) s'
TellsOn p input s s' (Err WriteFault) = Begins p input × IsCut (lines_on p input) s s'
TellsOn p input s s' (Err NoMemory) = Unit {0}

-- the same for the program of a source
pub record TraceDone (source input : List ℕ) : Type 0 where
  pub origin : Program
  pub is_program : program_of source ≡ Ok origin
  pub runs : Runs origin input

pub record TraceBegun (source input : List ℕ) : Type 0 where
  pub origin : Program
  pub is_program : program_of source ≡ Ok origin
  pub begins : Begins origin input

abbrev pub TraceTells : (source input : List ℕ) → SinkState → SinkState → Result (Unit {0}) RunStop → Type 0
TraceTells source input s s' (Ok u) = TraceDone source input × Wrote s (traced_text source input) s'
TraceTells source input s s' (Err (Refused r)) = RunDenies source input r × Wrote s (traced_text source input) s'
TraceTells source input s s' (Err WriteFault) = TraceBegun source input × IsCut (traced_text source input) s s'
TraceTells source input s s' (Err NoMemory) = Unit {0}

abbrev pub TraceAnswers : (source input : List ℕ) → SinkState → SinkState → Result (Unit {0}) RunStop → Type 0
TraceAnswers source input s s' (Ok u) = TraceDone source input × Wrote s (traced_text source input) s'
TraceAnswers source input s s' (Err (Refused r)) = (ProgramCause (program_of source) r ⊎ RunDenies source input r) × Wrote s (traced_text source input) s'
TraceAnswers source input s s' (Err WriteFault) = TraceBegun source input × IsCut (traced_text source input) s s'
TraceAnswers source input s s' (Err NoMemory) = Unit {0}

-- a refusal that comes before the executor
abbrev pub IsEarlyRefusal : Refusal → Type 0
IsEarlyRefusal (refusal.Run f) = is_inspector (section_of f) ≡ true
IsEarlyRefusal r = Unit {0}

-- an answer that comes before the executor
abbrev pub IsEarly : Result (Unit {0}) RunStop → Type 0
IsEarly (Ok u) = ⊥
IsEarly (Err (Refused r)) = IsEarlyRefusal r
IsEarly (Err WriteFault) = ⊥
IsEarly (Err NoMemory) = Unit {0}
