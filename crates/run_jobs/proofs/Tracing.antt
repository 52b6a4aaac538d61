-- How a trace ends: before its run as a run does, and behind it with its lines.
use Rattle.std.proofs.Common.{◌≡◌, ◌≤◌, ℕ, List, [], Option, None, Some, Result, Ok, Err, refl, sym, ◌∙◌, subst, arith, inl, inr}
use Rattle.chill_base.specs.Outside.{FilesState, SinkState, Shelf, BothTold, Wrote}
use Rattle.chill_base.specs.Whole.{ReadsWhole, ReadsWholeShelf}
use Rattle.chill_base.specs.declared.whole.Unread.{Unread}
use Rattle.chill_base.specs.declared.whole.Unread.TheVariants.{Fault, Long, NoMemory as Short}
use Rattle.chill_base.proofs.Sinks.{told_trans, wrote_nothing}
use Rattle.c_tree.specs.declared.program.Program.{Program}
use Rattle.c_loops.specs.Programs.{program_of}
use Rattle.command_words.specs.Commands.{run, trace}
use Rattle.outcomes.specs.declared.outcome.Outcome.{Outcome}
use Rattle.outcomes.specs.declared.outcome.Outcome.TheVariants.{Done, Refused, WriteFault, NoMemory}
use Rattle.outcomes.specs.declared.outcome.Refusal.TheVariants.{FileLong}
use Rattle.text_runs.specs.declared.tracing.RunStop.{RunStop}
use Rattle.text_runs.specs.declared.tracing.RunStop.TheVariants as stop
use Rattle.text_runs.specs.Tracing.{TraceDone, TraceTells, IsEarly, traced_text}
use Rattle.run_jobs.specs.Jobs.{Has, IsAtEnd, Passed, RefusalCause, Cause}
use Rattle.run_jobs.specs.Counts.{Does, Traces, Counts, outcome_of, outcome_of_run}
use Rattle.run_jobs.specs.Running.{running, tracing, TraceCause}
use Rattle.run_jobs.proofs.Reading.{not_read}

-- ## A second file that isn't read

told_map : {T : Type 0} (x y : Option T) (P Q : T → T → Type 0) → ((a b : T) → P a b → Q a b) → BothTold x y P → BothTold x y Q
told_map None None P Q f h = tt
told_map None (Some b) P Q f h = absurd h
told_map (Some a) None P Q f h = absurd h
told_map (Some a) (Some b) P Q f h = f a b h

module _ (one two : List ℕ) (x y : Shelf) (o : SinkState) where
  passed : Passed running x one → Passed (tracing TraceDone o o) x one
  passed p = record { bytes = p.bytes; has = p.has; passes = p.passes }

  too_long : RefusalCause running x one two (FileLong 2) → RefusalCause (tracing TraceDone o o) x one two (FileLong 2)
  too_long (inl (inl h)) = inl (inl h)
  too_long (inl (inr h)) = inl (inr (h.0, passed h.1, h.2))
  too_long (inr (inl h)) = inr (inl (record { bytes = h.bytes; has = h.has; refuses = h.refuses }))
  too_long (inr (inr h)) = absurd h.denies.cause

  unread_cause : (why : Unread) → Cause running one two x y o o (outcome_of 2 why) → TraceCause one two x y o o (outcome_of 2 why)
  unread_cause Fault c = c
  unread_cause Long c = too_long c
  unread_cause Short c = tt

unread_traced : (one two : List ℕ) (s s' : FilesState) (o : SinkState) (why : Unread) → Does running (Some (run one two)) one two s s' o o (outcome_of 2 why) → Traces one two s s' o o (outcome_of 2 why)
unread_traced one two s s' o why d = record {
  cause = told_map s.told s'.told (λ x y. Cause running one two x y o o (outcome_of 2 why)) (λ x y. TraceCause one two x y o o (outcome_of 2 why)) (λ x y c. unread_cause one two x y o why c) d.cause;
  counts = record {
    files_later = d.counts.files_later;
    out_later = d.counts.out_later;
    read_fault = d.counts.read_fault;
    write_fault = d.counts.write_fault;
    quiet = λ k. wrote_nothing o;
  };
}

pub not_traced : (one two first read : List ℕ) (tree : Program) (s m s' : FilesState) (o : SinkState) (why : Unread) (r : Outcome) → ReadsWhole s one m (Ok first) → read ≡ first → program_of read ≡ Ok tree
    → ReadsWhole m two s' (Err why) → r ≡ outcome_of 2 why → Traces one two s s' o o r
not_traced one two first read tree s m s' o why r h same is k e =
    subst (λ (r : Outcome). Traces one two s s' o o r) (sym e)
    (unread_traced one two s s' o why (subst (λ (r : Outcome). Does running (Some (run one two)) one two s s' o o r) e (not_read one two first read tree s m s' o why r h same is k e)))

-- ## Both files were read

abbrev pub Answer : Type 0
Answer = Result (Unit {0}) RunStop

abbrev pub outcome_of_answer : Answer → Outcome
outcome_of_answer (Ok u) = Done
outcome_of_answer (Err s) = outcome_of_run s

module _ (one two first second : List ℕ) (tree : Program) (s m s' : FilesState) (out out' : SinkState) (h : ReadsWhole s one m (Ok first)) (is : program_of first ≡ Ok tree) (k : ReadsWhole m two s' (Ok second)) where
  both_held : (P : Shelf → Shelf → Type 0) → ((x z : Shelf) → Has x one first → Has x two second → IsAtEnd z two → P x z) → BothTold s.told s'.told P
  both_held P f =
      told_trans s.told m.told s'.told (λ x y. ReadsWholeShelf x one y (Ok first)) (λ x y. ReadsWholeShelf x two y (Ok second)) P
      (λ x y z a b. f x z (record { held = a.text.0; short = h.short }) (record { held = sym (a.keeps.held two) ∙ b.text.0; short = k.short }) (record { opened = b.text.1; left = b.text.2 })) h.told k.told

  cause : (r : Answer) → TraceTells first second out out' r → BothTold s.told s'.told (λ x z. TraceCause one two x z out out' (outcome_of_answer r))
  cause (Ok u) t =
      both_held (λ x z. TraceCause one two x z out out' Done)
      (λ x z a b e. (traced_text first second, record { first = first; has_first = a; passes = (tree, is); second = second; has_second = b; makes = (t.0, refl) }, e, t.1))
  cause (Err (stop.Refused r)) t =
      both_held (λ x z. TraceCause one two x z out out' (Refused r))
      (λ x z a b e. inr (inr (record { first = first; has_first = a; passes = (tree, is); second = second; has_second = b; denies = (t.0, t.1) })))
  cause (Err stop.WriteFault) t =
      both_held (λ x z. TraceCause one two x z out out' WriteFault)
      (λ x z a b e. (traced_text first second, t.1.front, record { first = first; has_first = a; passes = (tree, is); second = second; has_second = b; makes = (t.0, refl) }, t.1.is_front, t.1.wrote))
  cause (Err stop.NoMemory) t = both_held (λ x z. TraceCause one two x z out out' NoMemory) (λ x z a b e. tt)

  nothing : out' ≡ out → Wrote out [] out'
  nothing e = subst (λ o. Wrote out [] o) (sym e) (wrote_nothing out)

  counts : (r : Answer) → TraceTells first second out out' r → out.faults ≤ out'.faults → (IsEarly r → out' ≡ out) → Counts (Some (trace one two)) s s' out out' (outcome_of_answer r)
  counts (Ok u) t later quiet = record { files_later = omega (arith, h.count, k.count); out_later = later; read_fault = λ e. absurd e; write_fault = λ e. cc; quiet = λ e. absurd e }
  counts (Err (stop.Refused r)) t later quiet = record { files_later = omega (arith, h.count, k.count); out_later = later; read_fault = λ e. absurd e; write_fault = λ e. cc; quiet = λ e. nothing (quiet e) }
  counts (Err stop.WriteFault) t later quiet = record { files_later = omega (arith, h.count, k.count); out_later = later; read_fault = λ e. absurd e; write_fault = λ e. t.1.rose; quiet = λ e. absurd e }
  counts (Err stop.NoMemory) t later quiet = record { files_later = omega (arith, h.count, k.count); out_later = later; read_fault = λ e. absurd e; write_fault = λ e. cc; quiet = λ e. nothing (quiet tt) }

  traces : (r : Answer) → TraceTells first second out out' r → out.faults ≤ out'.faults → (IsEarly r → out' ≡ out) → Traces one two s s' out out' (outcome_of_answer r)
  traces r t later quiet = record { cause = cause r t; counts = counts r t later quiet }

-- as the code meets it: the texts under their slices' names
pub both_traced : (one two first second first' second' : List ℕ) (tree : Program) (s m s' : FilesState) (out out' : SinkState) (r : Answer) → ReadsWhole s one m (Ok first) → first' ≡ first → program_of first' ≡ Ok tree → ReadsWhole m two s' (Ok second) → second' ≡ second
    → TraceTells first' second' out out' r → out.faults ≤ out'.faults → (IsEarly r → out' ≡ out) → Traces one two s s' out out' (outcome_of_answer r)
both_traced one two first second first' second' tree s m s' out out' r h p is k q t later quiet =
    traces one two first' second' tree s m s' out out' (subst (λ b. ReadsWhole s one m (Ok b)) (sym p) h) is (subst (λ b. ReadsWhole m two s' (Ok b)) (sym q) k) r t later quiet
