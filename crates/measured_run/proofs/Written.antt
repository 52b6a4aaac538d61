-- What holds of a text that was written holds of the whole: the summary of its run, or why it is refused.
use Rattle.std.proofs.Common.{◌≡◌, ◌⊎◌, ℕ, List, Ok, Err, IfOk, IfErr, inl, inr, sym, subst}
use Rattle.std.specs.Prelude.{Result}
use Rattle.chill_base.specs.declared.faults.Stop.{Stop}
use Rattle.chill_base.specs.declared.faults.Stop.TheVariants.{Refused, NoMemory}
use Rattle.c_loops.specs.Programs.{program_of}
use Rattle.emission.specs.Emitting.{Emits}
use Rattle.outcomes.specs.declared.outcome.Refusal.{Refusal}
use Rattle.outcomes.specs.Refusing.{IfRefused, ProgramCause}
use Rattle.text_runs.specs.Running.{RunDenies}
use Rattle.measured_run.specs.Work.{RunsTo, Measured, WorkCause}

pub measured : (recipe source written text input : List ℕ) (size : ℕ) (result : Result (List ℕ) (Stop Refusal)) → Emits recipe source written → text ≡ written
    → IfOk result (RunsTo text input size) → IfOk result (Measured recipe source size)
measured recipe source written text input size (Ok x) e same h =
    record { written = text; emits = subst (λ t. Emits recipe source t) (sym same) e; input = input; runs = h }
measured recipe source written text input size (Err stop) e same h = tt

-- why the text of a program is refused, or its run on a data text
abbrev pub Denies : List ℕ → List ℕ → Refusal → Type 0
Denies text input r = ProgramCause (program_of text) r ⊎ RunDenies text input r

pub denied : {A : Type 0} (recipe source written text input : List ℕ) (result : Result A (Stop Refusal)) → Emits recipe source written → text ≡ written
    → IfErr result (IfRefused (Denies text input)) → IfErr result (IfRefused (WorkCause recipe source))
denied recipe source written text input (Ok x) e same h = tt
denied recipe source written text input (Err NoMemory) e same h = tt
denied recipe source written text input (Err (Refused r)) e same (inl p) =
    inr (record { written = text; emits = subst (λ t. Emits recipe source t) (sym same) e; input = input; cause = inl p })
denied recipe source written text input (Err (Refused r)) e same (inr q) =
    inr (record { written = text; emits = subst (λ t. Emits recipe source t) (sym same) e; input = input; cause = inr (inr q) })
