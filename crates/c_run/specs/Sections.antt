-- What the runs of the two sections answer.
use Rattle.std.specs.Prelude.{◌≡◌, ℕ, List, Result, Ok, Err, None, Some}
use Rattle.chill_base.specs.Outside.{SinkState, Rose, Wrote, IsProperFront}
use Rattle.chill_base.specs.declared.faults.Stop.{Stop}
use Rattle.chill_base.specs.declared.faults.Stop.TheVariants as stop
use Rattle.c_tree.specs.declared.program.Program.{Program}
use Rattle.c_meaning.specs.declared.fault.EvalFault.{EvalFault}
use Rattle.c_meaning.specs.Names.{Place}
use Rattle.c_meaning.specs.Memory.{Memory}
use Rattle.c_meaning.specs.Run.{Outcome, run}
use Rattle.c_trace.specs.Steps.{Dimensions, step_line, lines}
use Rattle.c_walk.specs.State.{State, memory_in}
use Rattle.c_run.specs.declared.fault.Section.{Section}
use Rattle.c_run.specs.declared.fault.Section.TheVariants.{Inspector, Executor}
use Rattle.c_run.specs.declared.fault.RunFault.{RunFault}
use Rattle.c_run.specs.declared.fault.TraceFault.{TraceFault}
use Rattle.c_run.specs.declared.fault.TraceFault.TheVariants as traced
use Rattle.c_run.specs.Faults.{fault_at}

-- the run of a section ended with this fault
pub record Refuses (section : Section) (o : Outcome) (f : RunFault) : Type 0 where
  pub place : Place
  pub fault : EvalFault
  pub trouble : o.trouble ≡ Some (record { place = place; fault = fault })
  pub is : f ≡ fault_at section place fault

-- a run of a section from the first memory to the second, and its answer
abbrev pub Ended : Section → Result (Unit {0}) RunFault → Outcome → Memory → Type 0
Ended section (Ok u) o m = (o.trouble ≡ None) × (m ≡ o.last)
Ended section (Err f) o m = Refuses section o f × (m ≡ o.last)

abbrev pub InspectorEnds : Result (Unit {0}) (Stop RunFault) → Outcome → Memory → Type 0
InspectorEnds (Ok u) o m = (o.trouble ≡ None) × (m ≡ o.last)
InspectorEnds (Err (stop.Refused f)) o m = Refuses Inspector o f × (m ≡ o.last)
InspectorEnds (Err stop.NoMemory) o m = Unit {0}

-- the lines of the assignments of a run, over arrays of so many extents
abbrev pub trace_of : Dimensions → Outcome → List ℕ
trace_of d o = lines (step_line d) o.items

-- a line wasn't taken: the count of faults rose, and a front of the text was taken that isn't all of it
pub record IsCut (text : List ℕ) (s s' : SinkState) : Type 0 where
  pub rose : Rose s.faults s'.faults
  pub front : List ℕ
  pub is_front : IsProperFront front text
  pub wrote : Wrote s front s'

-- so ends a run whose lines are that text
abbrev pub TraceEnds : Result (Unit {0}) TraceFault → List ℕ → Outcome → Memory → SinkState → SinkState → Type 0
TraceEnds (Ok u) text o m s s' = (o.trouble ≡ None) × (m ≡ o.last) × Wrote s text s'
TraceEnds (Err (traced.Run f)) text o m s s' = Refuses Executor o f × (m ≡ o.last) × Wrote s text s'
TraceEnds (Err traced.WriteFault) text o m s s' = IsCut text s s'

abbrev pub inspector_run : Program → State → Outcome
inspector_run p s = run p.inspector s.sight.value (memory_in s)

abbrev pub executor_run : Program → State → Outcome
executor_run p s = run p.executor s.sight.value (memory_in s)

-- the lines of the executor's assignments
abbrev pub executor_lines : Program → State → List ℕ
executor_lines p s = trace_of s.scope.data_arrays (executor_run p s)
