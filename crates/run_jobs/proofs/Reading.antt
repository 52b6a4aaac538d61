-- Why a command ends where its first file passes and its second one isn't read.
use Rattle.std.proofs.Common.{◌≡◌, ◌≤◌, ℕ, List, length, Option, Some, Ok, Err, refl, sym, ◌∙◌, ap, subst, arith, inl, inr}
use Rattle.chill_base.specs.Outside.{FilesState, SinkState, Shelf}
use Rattle.chill_base.specs.Whole.{ReadsWhole, ReadsWholeShelf}
use Rattle.chill_base.specs.declared.whole.TheConstants.{FILE_LIMIT}
use Rattle.chill_base.specs.declared.whole.Unread.{Unread}
use Rattle.chill_base.specs.declared.whole.Unread.TheVariants.{Fault, Long, NoMemory as Short}
use Rattle.chill_base.proofs.Sinks.{rose_later, told_trans, wrote_nothing}
use Rattle.c_tree.specs.declared.program.Program.{Program}
use Rattle.c_loops.specs.Programs.{program_of}
use Rattle.command_words.specs.Commands.{Command, run}
use Rattle.outcomes.specs.declared.outcome.Outcome.{Outcome}
use Rattle.outcomes.specs.declared.outcome.Outcome.TheVariants.{ReadFault, NoMemory}
use Rattle.run_jobs.specs.Jobs.{Job, Passed, IsFaulty, Cause}
use Rattle.run_jobs.specs.Counts.{Does, outcome_of}
use Rattle.run_jobs.specs.Running.{running}

-- the first file was read, and passes
record First (job : Job) (one : List ℕ) (before after : Shelf) : Type 0 where
  passed : Passed job before one
  held : (name : List ℕ) → after.held name ≡ before.held name
  grow : (name : List ℕ) → before.breaks name ≤ after.breaks name

first_read : (job : Job) (one first : List ℕ) (x y : Shelf) → job.passes first → length first ≤ FILE_LIMIT → ReadsWholeShelf x one y (Ok first) → First job one x y
first_read job one first x y p short h = record {
  passed = record { bytes = first; has = record { held = h.text.0; short = short }; passes = p };
  held = h.keeps.held;
  grow = h.keeps.grow;
}

faulty : (two : List ℕ) (x y z : Shelf) → y.held two ≡ x.held two → x.breaks two ≤ y.breaks two → IsFaulty y two z → IsFaulty x two z
faulty two x y z same le (inl none) = inl (sym same ∙ none)
faulty two x y z same le (inr rose) = inr (rose_later (x.breaks two) (y.breaks two) (z.breaks two) le rose)

pub second_unread : (job : Job) (asked : Option Command) (one two first : List ℕ) (s m s' : FilesState) (o : SinkState) (why : Unread)
    → ReadsWhole s one m (Ok first) → job.passes first → ReadsWhole m two s' (Err why) → Does job asked one two s s' o o (outcome_of 2 why)
second_unread job asked one two first s m s' o Fault h p k = record {
  cause = told_trans s.told m.told s'.told (λ x y. ReadsWholeShelf x one y (Ok first)) (λ x y. ReadsWholeShelf x two y (Err Fault)) (λ x y. Cause job one two x y o o (ReadFault 2))
      (λ x y z f g. let t = first_read job one first x y p h.short f in inr (refl, t.passed, faulty two x y z (t.held two) (t.grow two) (g.fault refl))) h.told k.told;
  counts = record {
    files_later = omega (arith, h.count, k.count);
    out_later = omega arith;
    read_fault = λ e. rose_later s.faults m.faults s'.faults h.count (k.fault refl);
    write_fault = λ e. cc;
    quiet = λ q. wrote_nothing o;
  };
}
second_unread job asked one two first s m s' o Long h p k = record {
  cause = told_trans s.told m.told s'.told (λ x y. ReadsWholeShelf x one y (Ok first)) (λ x y. ReadsWholeShelf x two y (Err Long)) (λ x y. Cause job one two x y o o (outcome_of 2 Long))
      (λ x y z f g.
      let t = first_read job one first x y p h.short f in
      let l = g.long refl in
      inl (inr (refl, t.passed, record { bytes = l.0; held = sym (t.held two) ∙ l.1; long = l.2 }))) h.told k.told;
  counts = record { files_later = omega (arith, h.count, k.count); out_later = omega arith; read_fault = λ e. absurd e; write_fault = λ e. cc; quiet = λ q. wrote_nothing o };
}
second_unread job asked one two first s m s' o Short h p k = record {
  cause = told_trans s.told m.told s'.told (λ x y. ReadsWholeShelf x one y (Ok first)) (λ x y. ReadsWholeShelf x two y (Err Short)) (λ x y. Cause job one two x y o o NoMemory) (λ x y z f g. tt) h.told k.told;
  counts = record { files_later = omega (arith, h.count, k.count); out_later = omega arith; read_fault = λ e. absurd e; write_fault = λ e. cc; quiet = λ q. wrote_nothing o };
}

pub not_read : (one two first read : List ℕ) (tree : Program) (s m s' : FilesState) (o : SinkState) (why : Unread) (r : Outcome) → ReadsWhole s one m (Ok first) → read ≡ first → program_of read ≡ Ok tree
    → ReadsWhole m two s' (Err why) → r ≡ outcome_of 2 why → Does running (Some (run one two)) one two s s' o o r
not_read one two first read tree s m s' o why r h same is k e =
    subst (λ (k : Outcome). Does running (Some (run one two)) one two s s' o o k) (sym e)
    (second_unread running (Some (run one two)) one two first s m s' o why h (tree, ap program_of (sym same) ∙ is) k)
