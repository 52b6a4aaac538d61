-- What is held of a line at hand.
use Rattle.std.proofs.Common.{◌≡◌, ◌≢◌, ℕ, suc, ◌+◌, ◌<◌, ◌≤◌, List, [], ◌∷◌, ◌++◌, drop, length, get_or, drop-cons, Bool, true, false, Option, None, Some, Result, Ok, Err, refl, sym, ap, ◌∙◌, subst, arith}
use Rattle.std.specs.Option.{option_to_list}
use Rattle.csr_data.specs.declared.fault.Halt.{Halt}
use Rattle.csr_data.specs.declared.fault.Halt.TheVariants.{Fault, NoMemory}
use Rattle.csr_data.specs.declared.fault.ValuesFault.{ValuesFault}
use Rattle.csr_data.specs.declared.fault.ValuesFault.TheVariants.{Line}
use Rattle.c_tree.specs.declared.program.Program.{Program}
use Rattle.csr_data.specs.declared.parts.Held.{Held}
use Rattle.csr_data.specs.declared.parts.Wanted.{Wanted}
use Rattle.csr_data.specs.Wanted.{due_of, given_of}
use Rattle.csr_data.specs.Lines.{Due, parameter, array, name_of, is_parameter, dues, Given, Said, says_from, judged}
use Rattle.csr_data.proofs.Steps.{differ, takes_name, no_name, second_number, stored}
use Rattle.csr_data.proofs.Dues.{shape_is}
use Rattle.csr_data.specs.Extents.{first_negative, cells_wanted}
use Rattle.csr_data.specs.Reading.{inside, rest, dues_left, rest_of, open_of, closed, closed_of, IsAbout, IsSameLine, Reads, ReadsStop, checked, told, Tells, TellsStop, stop_of}

pub opens : (h : Held) (w : Wanted) → IsAbout h w → (more : List ℕ) → rest_of h more ≡ open_of h w more
opens h w a more = λ i. rest (a.begun i) h.headed h.matched (suc h.lines) h.found h.cells h.token (a.due i) (given_of h.values) more

pub stays_about : (old new : Held) (w : Wanted) → IsSameLine old new → IsAbout old w → IsAbout new w
stays_about old new w s a = record {
  begun = s.begun;
  due = (λ i. drop (s.lines i) (dues (s.program i).now)) ∙ a.due ∙ sym (λ i. due_of w ∷ drop (suc (s.lines i)) (dues (s.program i).now));
}

-- the same line by what is held before
pub opens_same : (old new : Held) (w : Wanted) → IsSameLine old new → (more : List ℕ)
    → open_of new w more ≡ inside new.headed new.matched (suc old.lines) new.found new.cells new.token (due_of w ∷ drop (suc old.lines) (dues old.program.now)) (given_of old.values) more
opens_same old new w s more = λ i. inside new.headed new.matched (suc (s.lines i)) new.found new.cells new.token (due_of w ∷ drop (suc (s.lines i)) (dues (s.program i).now)) (s.given i) more

pub closes_same : (old new : Held) (w : Wanted) → IsSameLine old new → (more : List ℕ)
    → closed_of new w more ≡ closed new.headed new.matched (suc old.lines) new.found new.cells new.token (due_of w) (drop (suc old.lines) (dues old.program.now)) (given_of old.values) more
closes_same old new w s more = λ i. closed new.headed new.matched (suc (s.lines i)) new.found new.cells new.token (due_of w) (drop (suc (s.lines i)) (dues (s.program i).now)) (s.given i) more

-- a line that hasn't begun holds nothing
pub begins : (begun headed : Bool) (m k found : ℕ) (vs : List ℕ) (t : Option ℕ) (d : Due) (ds : List Due) (g : Given) (b : ℕ) (more : List ℕ)
    → (begun ≡ false → (headed ≡ false) × (m ≡ 0)) → (headed ≡ false → (found ≡ 0) × (vs ≡ []) × (t ≡ None))
    → rest begun headed m k found vs t (d ∷ ds) g (b ∷ more) ≡ inside headed m k found vs t (d ∷ ds) g (b ∷ more)
begins true headed m k found vs t d ds g b more fresh none = refl
begins false headed m k found vs t d ds g b more fresh none =
    let f = fresh refl in
    let n = none f.0 in
    sym (λ i. inside (f.0 i) (f.1 i) k (n.0 i) (n.1 i) (n.2 i) (d ∷ ds) g (b ∷ more))

-- ---- steps of a line at hand
module _ (h : Held) (w : Wanted) where
  abbrev name : List ℕ
  name = name_of (due_of w)

  -- the next byte of the name
  pub next_name : (b : ℕ) → IsAbout h w → h.headed ≡ false → h.matched < length name → get_or name h.matched 0 ≡ b → b ≢ 10 → (more : List ℕ)
      → open_of h w (b ∷ more) ≡ rest h.begun h.headed (h.matched + 1) (suc h.lines) h.found h.cells h.token (dues_left h) (given_of h.values) more
  next_name b a head lt is differs more =
      let at : drop h.matched name ≡ b ∷ drop (suc h.matched) name = drop-cons name h.matched 0 lt ∙ ap (λ c. c ∷ drop (suc h.matched) name) is in
      let up : h.matched + 1 ≡ suc h.matched = omega arith in
      (λ i. inside (head i) h.matched (suc h.lines) h.found h.cells h.token (due_of w ∷ drop (suc h.lines) (dues h.program.now)) (given_of h.values) (b ∷ more))
      ∙ takes_name (suc h.lines) (due_of w) (drop (suc h.lines) (dues h.program.now)) (given_of h.values) h.matched h.found h.cells h.token b more (differ b 10 differs) (drop (suc h.matched) name) at refl
      ∙ sym (λ i. rest (a.begun i) (head i) (up i) (suc h.lines) h.found h.cells h.token (a.due i) (given_of h.values) more)

  -- the line ends in its name
  pub ends_early : h.headed ≡ false → h.matched < length name → (more : List ℕ) → closed_of h w more ≡ Err (Line (suc h.lines))
  ends_early head lt more =
      (λ i. closed (head i) h.matched (suc h.lines) h.found h.cells h.token (due_of w) (drop (suc h.lines) (dues h.program.now)) (given_of h.values) more)
      ∙ no_name (suc h.lines) (due_of w) (drop (suc h.lines) (dues h.program.now)) (given_of h.values) h.matched h.found h.cells h.token more (get_or name h.matched 0) (drop (suc h.matched) name) (drop-cons name h.matched 0 lt)

  -- a second number of a parameter
  pub second : (b : ℕ) → h.headed ≡ true → is_parameter (due_of w) ≡ true → 0 < h.found → b ≢ 10 → b ≢ 32 → (more : List ℕ) → open_of h w (b ∷ more) ≡ Err (Line (suc h.lines))
  second b head one some no_end no_space more =
      (λ i. inside (head i) h.matched (suc h.lines) h.found h.cells h.token (due_of w ∷ drop (suc h.lines) (dues h.program.now)) (given_of h.values) (b ∷ more))
      ∙ by (due_of w) one
    where
      by : (d : Due) → is_parameter d ≡ true → inside true h.matched (suc h.lines) h.found h.cells h.token (d ∷ drop (suc h.lines) (dues h.program.now)) (given_of h.values) (b ∷ more) ≡ Err (Line (suc h.lines))
      by (parameter x) e = second_number (suc h.lines) x (drop (suc h.lines) (dues h.program.now)) (given_of h.values) h.matched h.found h.cells h.token b more (differ b 10 no_end) (differ b 32 no_space) (omega (arith, some))
      by (array a) e = cc

  -- the number at hand is one more that was found
  pub counts_one : (v : ℕ) (vs' : List ℕ) → IsAbout h w → h.token ≡ Some v → (first_negative h.shape ≡ None → h.found < cells_wanted h.shape → vs' ≡ h.cells ++ v ∷ []) → (ns : List ℕ)
      → judged (suc h.lines) (due_of w) (given_of h.values) h.found h.cells (option_to_list h.token ++ ns) ≡ judged (suc h.lines) (due_of w) (given_of h.values) (h.found + 1) vs' ns
  counts_one v vs' a e more ns =
      ap (λ (t : Option ℕ). judged (suc h.lines) (due_of w) (given_of h.values) h.found h.cells (option_to_list t ++ ns)) e
      ∙ stored (suc h.lines) (due_of w) (given_of h.values) h.shape h.found v h.cells vs' (h.extents ∙ shape_is h.program.now h.values.params.items h.lines _ _ a.due) more ns

-- ---- steps one after another
pub reads_end : {A : Type 0} (r : Result A Halt) (old : Said) (mid new : List ℕ → Said) → old ≡ mid [] → Reads r mid new → Reads r (λ more. old) (λ more. new [])
reads_end (Ok a) old mid new e h = λ more. e ∙ h []
reads_end (Err (Fault f)) old mid new e h = λ more. e ∙ h []
reads_end (Err NoMemory) old mid new e h = tt

pub reads_fault : (halt : Halt) (old mid new new' : List ℕ → Said) (l : List ℕ) → ((more : List ℕ) → old more ≡ mid (l ++ more)) → Reads {A = Unit {0}} (Err halt) mid new → Reads {A = Unit {0}} (Err halt) old new'
reads_fault (Fault f) old mid new new' l e h = λ more. e more ∙ h (l ++ more)
reads_fault NoMemory old mid new new' l e h = tt

pub stopped_before : (o : Option Halt) (h : Held) (halt : Halt) (l : List ℕ) (new : List ℕ → Said) → o ≡ Some halt → ReadsStop (Err (stop_of halt)) (λ more. told o h (l ++ more)) new
stopped_before o h (Fault f) l new e = λ more. ap (λ (o : Option Halt). told o h (l ++ more)) e
stopped_before o h NoMemory l new e = tt

pub stopped_here : (o : Option Halt) (h : Held) (halt : Halt) (l : List ℕ) (mid new : List ℕ → Said) → o ≡ None → Reads {A = Unit {0}} (Err halt) (λ more. rest_of h (l ++ more)) mid → ReadsStop (Err (stop_of halt)) (λ more. told o h (l ++ more)) new
stopped_here o h (Fault f) l mid new e r = λ more. ap (λ (o : Option Halt). told o h (l ++ more)) e ∙ r more
stopped_here o h NoMemory l mid new e r = tt

pub tells_before : (p : Program) (o : Option Halt) (h : Held) (halt : Halt) → o ≡ Some halt → TellsStop (Err (stop_of halt)) (checked p (told o h []))
tells_before p o h (Fault f) e = ap (λ (o : Option Halt). checked p (told o h [])) e
tells_before p o h NoMemory e = tt

pub tells_here : (p : Program) (o : Option Halt) (h : Held) (halt : Halt) → o ≡ None → Tells (Err halt) (checked p (rest_of h [])) → TellsStop (Err (stop_of halt)) (checked p (told o h []))
tells_here p o h (Fault f) e t = ap (λ (o : Option Halt). checked p (told o h [])) e ∙ t
tells_here p o h NoMemory e t = tt

pub tells_fault : (p : Program) (halt : Halt) (said : Said) (new : List ℕ → Said) → Reads {A = Unit {0}} (Err halt) (λ more. said) new → Tells (Err halt) (checked p said)
tells_fault p (Fault f) said new h = ap (checked p) (h [])
tells_fault p NoMemory said new h = tt
