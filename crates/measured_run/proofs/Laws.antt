-- Programs of the grammar that keep the rules can be run; what such a run is on the values of a data text.
use Rattle.std.proofs.Common.{◌≡◌, List, ℕ, None, sym, ap, ◌∙◌}
use Rattle.c_tokens.specs.declared.token.Token.{Token}
use Rattle.c_tree.specs.declared.program.Program.{Program}
use Rattle.c_grammar.specs.Program.{IsProgram}
use Rattle.c_judge.specs.Rules.{KeepsRules}
use Rattle.c_meaning.specs.Memory.{Memory}
use Rattle.c_meaning.specs.Run.{Outcome, run}
use Rattle.c_walk.specs.State.{State, memory_in}
use Rattle.csr_data.specs.declared.values.Values.{Values}
use Rattle.csr_data.specs.Values.{params_of, arrays_of}
use Rattle.csr_data.specs.Wanted.{given_of}
use Rattle.c_run.specs.Ready.{CanInspect}
use Rattle.c_run.specs.Sections.{executor_run}
use Rattle.c_run.specs.Store.{prepared}
use Rattle.c_run.specs.declared.fault.RunFault.{RunFault}
use Rattle.program_run.specs.Texts.{Gives}
use Rattle.program_run.specs.Runs.{HasFault, inspected, executed}
use Rattle.text_runs.specs.Running.{Fails}
use Rattle.run_laws.proofs.Programs.{program_can_run}
use Rattle.measured_run.specs.Figures.{entries_of}
use Rattle.measured_run.specs.Work.{Measures, summary}

pub can_run : (ts : List Token) (p : Program) (input : List ℕ) (v : Values) → IsProgram ts p → KeepsRules p → Gives p input v → CanInspect p (prepared (params_of v) (arrays_of v))
can_run ts p input v g k h = program_can_run ts p (params_of v) (arrays_of v) g k h.signature

-- a fault of a run on the values of a data text
pub failing : (p : Program) (input : List ℕ) (v : Values) (f : RunFault) → Gives p input v → HasFault p (params_of v) (arrays_of v) f → Fails p input f
failing p input v f g h = record { given = given_of v; says = g.says; fault = h }

-- a run without a fault, from the state behind the inspector on
pub measuring : (p : Program) (input : List ℕ) (v : Values) (s : State) (last : Memory) (size : ℕ) (text : List ℕ) → Gives p input v
    → (inspected p (params_of v) (arrays_of v)).trouble ≡ None → memory_in s ≡ (inspected p (params_of v) (arrays_of v)).last
    → s.sight.value ≡ (prepared (params_of v) (arrays_of v)).sight.value → (executor_run p s).trouble ≡ None → last ≡ (executor_run p s).last
    → text ≡ summary size (entries_of (params_of v)) last → Measures p input size text
measuring p input v s last size text g none memory values ends is e =
    let same : executor_run p s ≡ executed p (params_of v) (arrays_of v) = λ i. run p.executor (values i) (memory i) in
    record {
      given = given_of v;
      says = g.says;
      done = record { inspector = none; executor = ap (λ (o : Outcome). o.trouble) (sym same) ∙ ends };
      is_summary = e ∙ ap (summary size (entries_of (params_of v))) (is ∙ ap (λ (o : Outcome). o.last) same);
    }
