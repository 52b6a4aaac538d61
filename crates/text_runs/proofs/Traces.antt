-- What a traced run of a text writes.
use Rattle.std.proofs.Common.{◌≡◌, ℕ, List, [], Result, Ok, Err, sym, ap, subst, inl, inr}
use Rattle.chill_base.specs.Outside.{SinkState, Wrote}
use Rattle.chill_base.proofs.Sinks.{wrote_nothing}
use Rattle.chill_base.specs.declared.faults.Stop.{Stop}
use Rattle.chill_base.specs.declared.faults.Stop.TheVariants as stop
use Rattle.c_tree.specs.declared.program.Program.{Program}
use Rattle.c_judge.specs.declared.faults.ProgramFault.{ProgramFault}
use Rattle.c_loops.specs.Programs.{program_of}
use Rattle.c_run.specs.Sections.{IsCut}
use Rattle.csr_data.specs.Lines.{Given}
use Rattle.csr_data.specs.Matrices.{says}
use Rattle.c_run.specs.declared.fault.RunFault.{RunFault}
use Rattle.outcomes.specs.Refusing.{IfRefused, ProgramCause}
use Rattle.outcomes.specs.declared.outcome.Refusal.{Refusal}
use Rattle.outcomes.specs.declared.outcome.Refusal.TheVariants.{Run}
use Rattle.program_run.specs.declared.runs.TraceStop.{TraceStop}
use Rattle.program_run.specs.declared.runs.TraceStop.TheVariants as traced
use Rattle.program_run.specs.Runs.{TraceEnds, trace_lines}
use Rattle.text_runs.specs.declared.tracing.RunStop.{RunStop}
use Rattle.text_runs.specs.declared.tracing.RunStop.TheVariants.{Refused, WriteFault, NoMemory}
use Rattle.text_runs.specs.Running.{RunCause}
use Rattle.text_runs.specs.Tracing.{lines_said, lines_on, lines_read, traced_text, TellsOn, TraceTells, TraceAnswers}

abbrev pub Answer : Type 0
Answer = Result (Unit {0}) RunStop

module _ (p : Program) (input : List ℕ) (given : Given) (is : says p input ≡ Ok given) (s s' : SinkState) where
  lines_are : trace_lines p given.params given.arrays ≡ lines_on p input
  lines_are = ap (lines_said p) (sym is)

  wrote_on : Wrote s (trace_lines p given.params given.arrays) s' → Wrote s (lines_on p input) s'
  wrote_on w = subst (λ text. Wrote s text s') lines_are w

  pub tells_done : (u v : Unit {0}) → TraceEnds p given.params given.arrays s s' (Ok u) → TellsOn p input s s' (Ok v)
  tells_done u v h = (record { given = given; says = is; done = h.0 }, wrote_on h.1)

  -- a fault by its variant
  pub tells_fault : (t : TraceStop) (f : RunFault) → t ≡ traced.Refused f → TraceEnds p given.params given.arrays s s' (Err t) → TellsOn p input s s' (Err (Refused (Run f)))
  tells_fault t f e k =
      let h = subst (λ (t : TraceStop). TraceEnds p given.params given.arrays s s' (Err t)) e k in
      (record { given = given; says = is; fault = h.0 }, wrote_on h.1)

  pub tells_cut : (t : TraceStop) → t ≡ traced.WriteFault → TraceEnds p given.params given.arrays s s' (Err t) → TellsOn p input s s' (Err WriteFault)
  tells_cut t e k =
      let h = subst (λ (t : TraceStop). TraceEnds p given.params given.arrays s s' (Err t)) e k in
      (record { given = given; says = is }, subst (λ text. IsCut text s s') lines_are h)

module _ (source input : List ℕ) (s s' : SinkState) where
  module _ (p : Program) (is : program_of source ≡ Ok p) where
    text_is : lines_on p input ≡ traced_text source input
    text_is = ap (λ r. lines_read r input) (sym is)

    -- by the program of the source
    pub tells_source : (r : Answer) → TellsOn p input s s' r → TraceTells source input s s' r
    tells_source (Ok u) h = (record { origin = p; is_program = is; runs = h.0 }, subst (λ text. Wrote s text s') text_is h.1)
    tells_source (Err (Refused r)) h = (record { origin = p; is_program = is; cause = h.0 }, subst (λ text. Wrote s text s') text_is h.1)
    tells_source (Err WriteFault) h = (record { origin = p; is_program = is; begins = h.0 }, subst (λ text. IsCut text s s') text_is h.1)
    tells_source (Err NoMemory) h = tt

  pub answers_source : (r : Answer) → TraceTells source input s s' r → TraceAnswers source input s s' r
  answers_source (Ok u) h = h
  answers_source (Err (Refused r)) h = (inr h.0, h.1)
  answers_source (Err WriteFault) h = h
  answers_source (Err NoMemory) h = tt

-- a refusal by its variant
refusal_is : (P : Refusal → Type 0) (t : Stop Refusal) (r : Refusal) → t ≡ stop.Refused r → IfRefused P t → P r
refusal_is P t r e h = subst (IfRefused P) e h

-- a data text that is refused
pub tells_refused : (source input : List ℕ) (s : SinkState) (p : Program) (t : Stop Refusal) (r : Refusal) → program_of source ≡ Ok p → t ≡ stop.Refused r → IfRefused (RunCause p input) t → IfRefused (λ r. lines_on p input ≡ []) t → TraceTells source input s s (Err (Refused r))
tells_refused source input s p t r is e cause none =
    tells_source source input s s p is (Err (Refused r)) (refusal_is (RunCause p input) t r e cause, subst (λ text. Wrote s text s) (sym (refusal_is (λ r. lines_on p input ≡ []) t r e none)) (wrote_nothing s))

refused_by : (source input : List ℕ) (s : SinkState) (r : Refusal) (o : Result Program ProgramFault) → ProgramCause o r → Wrote s (lines_read o input) s
refused_by source input s r (Ok p) c = absurd c
refused_by source input s r (Err f) c = wrote_nothing s

-- a source that is refused
pub answers_refused : (source input : List ℕ) (s : SinkState) (t : Stop Refusal) (r : Refusal) → t ≡ stop.Refused r → IfRefused (ProgramCause (program_of source)) t → TraceAnswers source input s s (Err (Refused r))
answers_refused source input s t r e h =
    let cause = refusal_is (ProgramCause (program_of source)) t r e h in
    (inl cause, refused_by source input s r (program_of source) cause)
