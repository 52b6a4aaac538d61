-- How a run ends, section by section.
use Rattle.std.proofs.Common.{◌≡◌, ℕ, List, ◌++◌, None, Result, Ok, Err, sym, ap, ◌∙◌, subst, inr}
use Rattle.chill_base.specs.Outside.{SinkState, Wrote}
use Rattle.chill_base.proofs.Sinks.{wrote_nothing}
use Rattle.chill_base.specs.declared.faults.Stop.{Stop}
use Rattle.chill_base.specs.declared.faults.Stop.TheVariants as stop
use Rattle.c_tree.specs.declared.program.Program.{Program}
use Rattle.c_meaning.specs.Memory.{Memory}
use Rattle.c_meaning.specs.Run.{Outcome, run}
use Rattle.c_walk.specs.State.{State, memory_in}
use Rattle.csr_data.specs.declared.values.Parameter.{Parameter}
use Rattle.csr_data.specs.declared.values.Table.{Table}
use Rattle.csr_data.specs.Printed.{parameters_text}
use Rattle.c_run.specs.declared.fault.RunFault.{RunFault}
use Rattle.c_run.specs.declared.fault.TraceFault.{TraceFault}
use Rattle.c_run.specs.declared.fault.TraceFault.TheVariants as trace_fault
use Rattle.c_run.specs.declared.fault.Section.TheVariants.{Inspector, Executor}
use Rattle.c_run.specs.Ready.{scope_behind}
use Rattle.c_run.specs.Sections.{Refuses, IsCut, InspectorEnds, inspector_run, executor_run, executor_lines, trace_of}
use Rattle.c_run.specs.Sections as section
use Rattle.c_run.specs.Printing.{arrays_text}
use Rattle.c_run.specs.Store.{prepared}
use Rattle.program_run.specs.Runs.{inspected, executed, traced_behind, trace_lines, IsDone, HasFault, RunEnds, ExecutorLeaves}

module _ (p : Program) (ps : List Parameter) (ts : List Table) where
  abbrev start : State
  start = prepared ps ts

  -- the state behind the inspector
  module _ (s : State) (none : (inspected p ps ts).trouble ≡ None) (memory : memory_in s ≡ (inspected p ps ts).last) (values : s.sight.value ≡ start.sight.value) where
    same_run : executor_run p s ≡ executed p ps ts
    same_run = (λ i. run p.executor (values i) (memory i))

    pub leaves : (r : Result (List ℕ) (Stop RunFault)) (front : List ℕ) → front ≡ parameters_text ps → ExecutorLeaves p s front r → RunEnds p ps ts r
    leaves (Ok text) front e h = record {
      done = record { inspector = none; executor = ap (λ (o : Outcome). o.trouble) (sym same_run) ∙ h.0 };
      left = h.1.0;
      are = h.1.1 ∙ ap (λ (o : Outcome). o.last) same_run;
      whole = h.1.2;
      is_text = h.1.3 ∙ ap (λ (l : List ℕ). l ++ arrays_text h.1.0 p.arrays) e;
    }
    leaves (Err (stop.Refused f)) front e h = inr (none, subst (λ (o : Outcome). Refuses Executor o f) same_run h)
    leaves (Err stop.NoMemory) front e h = tt

    pub traced_done : (executor_run p s).trouble ≡ None → IsDone p ps ts
    traced_done h = record { inspector = none; executor = ap (λ (o : Outcome). o.trouble) (sym same_run) ∙ h }

    pub traced_fault : (f : RunFault) → Refuses Executor (executor_run p s) f → HasFault p ps ts f
    traced_fault f h = inr (none, subst (λ (o : Outcome). Refuses Executor o f) same_run h)

    -- the lines of that state's run are those of the whole
    pub same_lines : s.scope ≡ scope_behind p.inspector start.scope → executor_lines p s ≡ trace_lines p ps ts
    same_lines e =
        (λ i. trace_of ((e i).data_arrays) (same_run i))
        ∙ ap (λ t. traced_behind t (trace_of (scope_behind p.inspector start.scope).data_arrays (executed p ps ts))) (sym none)

  -- nothing is written behind an inspector with a fault
  pub untraced : (f : RunFault) (s : SinkState) → Refuses Inspector (inspected p ps ts) f → Wrote s (trace_lines p ps ts) s
  untraced f s h = subst (λ t. Wrote s (traced_behind t (trace_of (scope_behind p.inspector start.scope).data_arrays (executed p ps ts))) s) (sym h.trouble) (wrote_nothing s)

-- a fault by its variant
pub traced_run : (t : TraceFault) (f : RunFault) (text : List ℕ) (o : Outcome) (m : Memory) (s s' : SinkState) → t ≡ trace_fault.Run f → section.TraceEnds (Err t) text o m s s' → Refuses Executor o f × (m ≡ o.last) × Wrote s text s'
traced_run t f text o m s s' e h = subst (λ (t : TraceFault). section.TraceEnds (Err t) text o m s s') e h

pub traced_front : (t : TraceFault) (text : List ℕ) (o : Outcome) (m : Memory) (s s' : SinkState) → t ≡ trace_fault.WriteFault → section.TraceEnds (Err t) text o m s s' → IsCut text s s'
traced_front t text o m s s' e h = subst (λ (t : TraceFault). section.TraceEnds (Err t) text o m s s') e h

pub refused_first : (t : Stop RunFault) (f : RunFault) (o : Outcome) (m : Memory) → t ≡ stop.Refused f → InspectorEnds (Err t) o m → Refuses Inspector o f
refused_first t f o m e h = let g : InspectorEnds (Err (stop.Refused f)) o m = subst (λ (t : Stop RunFault). InspectorEnds (Err t) o m) e h in g.0
