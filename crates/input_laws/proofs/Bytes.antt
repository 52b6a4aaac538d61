-- What `run` gives of a source and of a text that performs as it does.
use Rattle.std.proofs.Common.{◌≡◌, ◌⊎◌, inl, inr, ℕ, List, Option, Some, None, Result, Ok, Err, refl, sym, ap, ◌∙◌, subst}
use Rattle.c_grammar.specs.Program.{IsProgram}
use Rattle.c_judge.specs.Rules.{fault_of, KeepsRules}
use Rattle.c_judge.specs.declared.faults.ProgramFault.{ProgramFault}
use Rattle.c_loops.specs.Programs.{program_of, IsCause, syntax, rule}
use Rattle.c_loops.proofs.Texts.{program_sound_of, program_only, program_refused}
use Rattle.c_meaning.specs.Inputs.{IsValid}
use Rattle.c_meaning.specs.Listing.{Trouble}
use Rattle.c_run.specs.declared.fault.RunFault.{RunFault}
use Rattle.c_tokens.specs.Pieces.{tokens_of}
use Rattle.c_tree.specs.declared.program.Program.{Program}
use Rattle.chill_base.specs.declared.faults.Stop.TheVariants.{Refused}
use Rattle.csr_data.specs.declared.fault.ValuesFault.{ValuesFault}
use Rattle.csr_data.specs.Lines.{Given, Said}
use Rattle.csr_data.specs.Matrices.{says}
use Rattle.headline.specs.Headline.{Prescription, PerformsAsSource}
use Rattle.outcomes.specs.Refusing.{ProgramCause}
use Rattle.outcomes.specs.declared.outcome.Refusal.{Refusal}
use Rattle.outcomes.specs.declared.outcome.Refusal.TheVariants as refusal
use Rattle.program_run.specs.Runs.{executed, IsDone, HasFault, LeavesText}
use Rattle.text_runs.specs.Running.{RunCause, RunMakes, RunDenies}
use Rattle.input_laws.specs.Inputs.{input_of, Reads, RunsAsDefined}
use Rattle.input_laws.specs.Texts.{AreSame}
use Rattle.input_laws.proofs.Alike.{same_says, done, same_left}
use Rattle.input_laws.proofs.Leaving.{same_effect}
use Rattle.input_laws.proofs.Matrices.{input_valid}
use Rattle.input_laws.proofs.Starts.{runs}

abbrev found : Program → Result Program ProgramFault
found p = Ok p

abbrev fine : Given → Said
fine g = Ok g

same_given : (g h : Given) → fine g ≡ fine h → g ≡ h
same_given g h e = cc

-- ---- the program of a text
is_cause : (text : List ℕ) (f : ProgramFault) → program_of text ≡ Err f → IsCause text f
is_cause text f e = program_refused text (Err (Refused f)) e

no_broken_rule : (text : List ℕ) (p : Program) → ((q : Program) → IsProgram (tokens_of text) q → q ≡ p) → KeepsRules p → (q : Program) (f : ProgramFault) → IsProgram (tokens_of text) q → fault_of q ≡ Some f → ⊥
no_broken_rule text p only keeps q f is broken =
    let same : fault_of q ≡ fault_of p = ap fault_of (only q is) in
    let none : fault_of p ≡ None = keeps in
    cc

no_cause : (text : List ℕ) (p : Program) → IsProgram (tokens_of text) p → ((q : Program) → IsProgram (tokens_of text) q → q ≡ p) → KeepsRules p → {f : ProgramFault} → IsCause text f → ⊥
no_cause text p h only keeps (syntax none wrong) = none p h
no_cause text p h only keeps (rule is broken) = no_broken_rule text p only keeps _ _ is broken

-- a text of the grammar that keeps the rules has its tree as its program
pub has_program : (text : List ℕ) (p : Program) → IsProgram (tokens_of text) p → ((q : Program) → IsProgram (tokens_of text) q → q ≡ p) → KeepsRules p → program_of text ≡ Ok p
has_program text p h only keeps = by (program_of text) refl
  where
    by : (r : Result Program ProgramFault) → program_of text ≡ r → program_of text ≡ Ok p
    by (Ok q) e = e ∙ ap found (only q (program_sound_of text (Ok q) e).0)
    by (Err f) e = absurd (no_cause text p h only keeps (is_cause text f e))

-- ---- the source and the text on what a data text gives
record Runs (p q : Program) (input : List ℕ) (g : Given) : Type 0 where
  says : says q input ≡ fine g
  done : IsDone q g.params g.arrays
  same : AreSame p.arrays (executed p g.params g.arrays).last (executed q g.params g.arrays).last

module _ (prescribed : Prescription) (source text input : List ℕ) (h : PerformsAsSource prescribed source text) where
  run_alike : (g : Given) → KeepsRules h.origin → says h.origin input ≡ fine g → Runs h.origin h.written input g
  run_alike g keeps said =
      let also : says h.written input ≡ fine g = same_says h.origin h.written input h.parameters h.arrays h.matrices ∙ said in
      let first : Reads h.origin input g = record { tokens = tokens_of source; grammar = h.origin_is; rules = keeps; says = said } in
      let second : Reads h.written input g = record { tokens = tokens_of text; grammar = h.written_is; rules = h.rules keeps; says = also } in
      let valid : IsValid h.origin (input_of g) = input_valid h.origin input g first in
      let old : RunsAsDefined h.origin g = runs h.origin input g first in
      let new : RunsAsDefined h.written g = runs h.written input g second in
      record { says = also; done = done h.written g new (h.fine (input_of g) valid); same = same_left h.origin h.written g old new (h.leaves (input_of g) valid) }

  -- what was made of the source, by the program that performs
  record Made (bytes : List ℕ) : Type 0 where
    given : Given
    keeps : KeepsRules h.origin
    says : says h.origin input ≡ fine given
    leaves : LeavesText h.origin given.params given.arrays bytes

  made : (bytes : List ℕ) → RunMakes source input bytes → Made bytes
  made bytes a =
      let sound = program_sound_of source (Ok a.origin) a.is_program in
      let same : a.origin ≡ h.origin = sym (program_only source (Ok a.origin) a.is_program h.origin h.origin_is) in
      let g : Given = a.makes.given in
      record {
        given = g;
        keeps = subst KeepsRules same sound.1;
        says = subst (λ (p : Program). says p input ≡ fine g) same a.makes.says;
        leaves = subst (λ (p : Program). LeavesText p g.params g.arrays bytes) same a.makes.leaves;
      }

  pub same_bytes : (bytes others : List ℕ) → RunMakes source input bytes → RunMakes text input others → bytes ≡ others
  same_bytes bytes others a b =
      let m : Made bytes = made bytes a in
      let r : Runs h.origin h.written input m.given = run_alike m.given m.keeps m.says in
      let same : b.origin ≡ h.written = h.no_other b.origin (program_sound_of text (Ok b.origin) b.is_program).0 in
      let also : says h.written input ≡ fine b.makes.given = subst (λ (q : Program). says q input ≡ fine b.makes.given) same b.makes.says in
      let given : b.makes.given ≡ m.given = same_given b.makes.given m.given (sym also ∙ r.says) in
      let leaves : LeavesText h.written m.given.params m.given.arrays others =
      subst (λ (g : Given). LeavesText h.written g.params g.arrays others) given (subst (λ (q : Program). LeavesText q b.makes.given.params b.makes.given.arrays others) same b.makes.leaves) in
      same_effect h.origin h.written m.given.params m.given.arrays h.arrays r.same bytes others m.leaves leaves

  -- ---- the text isn't refused
  no_fault : (g : Given) (f : RunFault) → IsDone h.written g.params g.arrays → HasFault h.written g.params g.arrays f → ⊥
  no_fault g f d (inl r) = no_trouble d.inspector r.trouble
    where
      no_trouble : {o : Option Trouble} {t : Trouble} → o ≡ None → o ≡ Some t → ⊥
      no_trouble e k = cc
  no_fault g f d (inr r) = no_trouble d.executor r.1.trouble
    where
      no_trouble : {o : Option Trouble} {t : Trouble} → o ≡ None → o ≡ Some t → ⊥
      no_trouble e k = cc

  no_run_cause : (g : Given) → Runs h.origin h.written input g → (r : Refusal) → RunCause h.written input r → ⊥
  no_run_cause g r (refusal.Values f) c = (let both : fine g ≡ Err f = sym r.says ∙ c in cc)
  no_run_cause g r (refusal.Run f) c =
      let given : c.given ≡ g = same_given c.given g (sym c.says ∙ r.says) in
      no_fault g f r.done (subst (λ (k : Given). HasFault h.written k.params k.arrays f) given c.fault)
  no_run_cause g r (refusal.FileLong file) c = c
  no_run_cause g r (refusal.Recipe f) c = c
  no_run_cause g r (refusal.Program f) c = c
  no_run_cause g r (refusal.Source f) c = c
  no_run_cause g r (refusal.Command number f) c = c
  no_run_cause g r (refusal.Scan f) c = c
  no_run_cause g r (refusal.Where f) c = c

  pub none_is_denied : (bytes : List ℕ) → RunMakes source input bytes → (r : Refusal) → ProgramCause (program_of text) r ⊎ RunDenies text input r → ⊥
  none_is_denied bytes a r (inl c) =
      let m : Made bytes = made bytes a in
      subst (λ o. ProgramCause o r) (has_program text h.written h.written_is h.no_other (h.rules m.keeps)) c
  none_is_denied bytes a r (inr d) =
      let m : Made bytes = made bytes a in
      let same : d.origin ≡ h.written = h.no_other d.origin (program_sound_of text (Ok d.origin) d.is_program).0 in
      no_run_cause m.given (run_alike m.given m.keeps m.says) r (subst (λ (q : Program). RunCause q input r) same d.cause)
