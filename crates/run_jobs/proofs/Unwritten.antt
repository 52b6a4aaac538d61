-- Why `where` ends where its line wasn't taken whole.
use Rattle.std.proofs.Common.{◌≡◌, ℕ, List, Option, None, Some, Ok, Err, ap, sym, ◌∙◌, subst}
use Rattle.chill_base.specs.Outside.{FilesState, SinkState, BothTold, IsProperFront, WritesAll}
use Rattle.chill_base.specs.Whole.{ReadsWhole, ReadsWholeShelf}
use Rattle.chill_base.specs.declared.faults.Failed.{Failed}
use Rattle.token_places.specs.Lines.{line_of}
use Rattle.outcomes.specs.declared.outcome.Outcome.TheVariants.{WriteFault}
use Rattle.run_jobs.specs.Locating.{PlaceCause, Locates}

told_map : {T : Type 0} (x y : Option T) (P Q : T → T → Type 0) → ((a b : T) → P a b → Q a b) → BothTold x y P → BothTold x y Q
told_map None None P Q f h = tt
told_map None (Some b) P Q f h = absurd h
told_map (Some a) None P Q f h = absurd h
told_map (Some a) (Some b) P Q f h = f a b h

pub not_written : (text bytes read line given : List ℕ) (token : ℕ) (s s' : FilesState) (o o' : SinkState) (e : Failed)
    → ReadsWhole s text s' (Ok bytes) → read ≡ bytes → line_of read token ≡ Some line → given ≡ line → WritesAll o given o' (Err e)
    → Locates text token s s' o o' WriteFault
not_written text bytes read line given token s s' o o' e h same is whole w =
    let front = w.failed.0 in
    let proper = subst (λ (t : List ℕ). IsProperFront front t) whole w.failed.1 in
    let line_is = ap (λ b. line_of b token) (sym same) ∙ is in
    record {
      cause = told_map s.told s'.told (λ x y. ReadsWholeShelf x text y (Ok bytes)) (λ x y. PlaceCause text token x y o o' WriteFault)
          (λ x y r. (line, front, record { bytes = bytes; has = record { held = r.text.0; short = h.short }; is_line = line_is }, proper, w.failed.2)) h.told;
      counts = record { files_later = h.count; out_later = w.failed.2.count; read_fault = λ q. absurd q; write_fault = λ q. w.failed.3; quiet = λ q. absurd q };
    }
