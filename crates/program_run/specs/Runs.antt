-- What a run of a program on values is, and the text that it leaves.
use Rattle.std.specs.Prelude.{◌≡◌, ◌⊎◌, ℕ, Bool, true, false, List, [], ◌++◌, Result, Ok, Err, Option, Some, None}
use Rattle.chill_base.specs.Outside.{SinkState, Wrote}
use Rattle.chill_base.specs.declared.faults.Stop.{Stop}
use Rattle.chill_base.specs.declared.faults.Stop.TheVariants as stop
use Rattle.c_tree.specs.declared.program.Program.{Program}
use Rattle.c_meaning.specs.Listing.{Trouble}
use Rattle.c_meaning.specs.Run.{Outcome, run}
use Rattle.c_walk.specs.State.{State, memory_in}
use Rattle.csr_data.specs.declared.values.Parameter.{Parameter}
use Rattle.csr_data.specs.declared.values.Table.{Table}
use Rattle.csr_data.specs.Printed.{parameters_text}
use Rattle.c_run.specs.declared.fault.RunFault.{RunFault}
use Rattle.c_run.specs.declared.fault.RunFault.TheVariants as fault
use Rattle.c_run.specs.declared.fault.Section.{Section}
use Rattle.c_run.specs.declared.fault.Section.TheVariants.{Inspector, Executor}
use Rattle.c_run.specs.Printing.{arrays_text, AreWhole}
use Rattle.c_run.specs.Ready.{scope_behind}
use Rattle.c_run.specs.Sections.{Refuses, IsCut, inspector_run, executor_run, trace_of}
use Rattle.c_run.specs.Store.{prepared}
use Rattle.program_run.specs.declared.runs.TraceStop.{TraceStop}
use Rattle.program_run.specs.declared.runs.TraceStop.TheVariants as traced

-- the inspector's run from the values, and the executor's run from what the inspector leaves
abbrev pub inspected : Program → List Parameter → List Table → Outcome
inspected p ps ts = inspector_run p (prepared ps ts)

abbrev pub executed : Program → List Parameter → List Table → Outcome
executed p ps ts = run p.executor (prepared ps ts).sight.value (inspected p ps ts).last

-- neither section has a fault
pub record IsDone (p : Program) (ps : List Parameter) (ts : List Table) : Type 0 where
  pub inspector : (inspected p ps ts).trouble ≡ None
  pub executor : (executed p ps ts).trouble ≡ None

-- the run has no fault, and the text is that of the parameters and of all cells of the arrays as the run leaves them
pub record LeavesText (p : Program) (ps : List Parameter) (ts : List Table) (text : List ℕ) : Type 0 where
  pub done : IsDone p ps ts
  pub left : List Table
  pub are : memory_in (prepared [] left) ≡ (executed p ps ts).last
  pub whole : AreWhole left p.arrays
  pub is_text : text ≡ parameters_text ps ++ arrays_text left p.arrays

-- the inspector has this fault, or else the executor
abbrev pub HasFault : Program → List Parameter → List Table → RunFault → Type 0
HasFault p ps ts f = Refuses Inspector (inspected p ps ts) f ⊎ (((inspected p ps ts).trouble ≡ None) × Refuses Executor (executed p ps ts) f)

abbrev pub RunEnds : Program → List Parameter → List Table → Result (List ℕ) (Stop RunFault) → Type 0
RunEnds p ps ts (Ok text) = LeavesText p ps ts text
RunEnds p ps ts (Err (stop.Refused f)) = HasFault p ps ts f
RunEnds p ps ts (Err stop.NoMemory) = Unit {0}

-- behind an inspector with a fault nothing is traced
abbrev pub traced_behind : Option Trouble → List ℕ → List ℕ
traced_behind None text = text
traced_behind (Some t) text = []

-- The lines of a run: those of its executor's assignments up to the end or the fault, over the arrays of the signature and
-- those that the inspector declares.
abbrev pub trace_lines : Program → List Parameter → List Table → List ℕ
trace_lines p ps ts =
    traced_behind (inspected p ps ts).trouble (trace_of (scope_behind p.inspector (prepared ps ts).scope).data_arrays (executed p ps ts))

-- A traced run. Its lines were written, or where a line can't be written a front of them.
abbrev pub TraceEnds : Program → List Parameter → List Table → SinkState → SinkState → Result (Unit {0}) TraceStop → Type 0
TraceEnds p ps ts s s' (Ok u) = IsDone p ps ts × Wrote s (trace_lines p ps ts) s'
TraceEnds p ps ts s s' (Err (traced.Refused f)) = HasFault p ps ts f × Wrote s (trace_lines p ps ts) s'
TraceEnds p ps ts s s' (Err traced.WriteFault) = IsCut (trace_lines p ps ts) s s'
TraceEnds p ps ts s s' (Err traced.NoMemory) = Unit {0}

abbrev pub is_inspector : Section → Bool
is_inspector Inspector = true
is_inspector Executor = false

abbrev pub section_of : RunFault → Section
section_of (fault.Outside section array place) = section
section_of (fault.Range section place) = section

-- the answers that come before the executor
abbrev pub IsBefore : Result (Unit {0}) TraceStop → Type 0
IsBefore (Ok u) = ⊥
IsBefore (Err (traced.Refused f)) = is_inspector (section_of f) ≡ true
IsBefore (Err traced.WriteFault) = ⊥
IsBefore (Err traced.NoMemory) = Unit {0}

-- what the executor leaves behind a front of the text, from this state
abbrev pub ExecutorLeaves : Program → State → List ℕ → Result (List ℕ) (Stop RunFault) → Type 0
ExecutorLeaves p s front (Ok text) = ((executor_run p s).trouble ≡ None) × ((left : List Table) × (memory_in (prepared [] left) ≡ (executor_run p s).last) × AreWhole left p.arrays × (text ≡ front ++ arrays_text left p.arrays))
ExecutorLeaves p s front (Err (stop.Refused f)) = Refuses Executor (executor_run p s) f
ExecutorLeaves p s front (Err stop.NoMemory) = Unit {0}
