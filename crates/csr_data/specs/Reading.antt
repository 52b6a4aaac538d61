-- What a text says whose rest is still to be read.
use Rattle.std.specs.Prelude.{◌≡◌, ℕ, suc, List, [], ◌∷◌, ◌++◌, drop, Bool, true, false, Option, Some, None, Result, Ok, Err}
use Rattle.std.specs.Option.{option_to_list}
use Rattle.chill_base.specs.declared.faults.Stop.{Stop}
use Rattle.chill_base.specs.declared.faults.Stop.TheVariants.{Refused}
use Rattle.chill_base.specs.declared.faults.Stop.TheVariants as stop
use Rattle.c_tree.specs.declared.program.Program.{Program}
use Rattle.csr_data.specs.declared.fault.Halt.{Halt}
use Rattle.csr_data.specs.declared.fault.Halt.TheVariants.{Fault, NoMemory}
use Rattle.csr_data.specs.declared.fault.ValuesFault.{ValuesFault}
use Rattle.csr_data.specs.declared.values.Values.{Values}
use Rattle.csr_data.specs.declared.parts.Held.{Held}
use Rattle.csr_data.specs.declared.parts.Wanted.{Wanted}
use Rattle.csr_data.specs.declared.fault.ValuesFault.TheVariants.{Line}
use Rattle.csr_data.specs.Text.{cut, front}
use Rattle.csr_data.specs.Wanted.{due_of, given_of}
use Rattle.csr_data.specs.Lines.{Due, name_of, dues, Given, Said, after, judged, line_or, says_from}
use Rattle.csr_data.specs.Matrices.{matrices_fault, unless}

-- inside the k-th line
abbrev pub inside : (headed : Bool) (m k found : ℕ) (vs : List ℕ) (t : Option ℕ) → List Due → Given → List ℕ → Said
inside headed m k found vs t [] g more = Err (Line k)
inside headed m k found vs t (d ∷ ds) g more = line_or k (front headed m (name_of d) t (cut 10 more).0) (λ ns. after (judged k d g found vs ns) (λ g'. says_from (suc k) ds g' (cut 10 more).1))

abbrev pub rest : Bool → (headed : Bool) (m k found : ℕ) (vs : List ℕ) (t : Option ℕ) → List Due → Given → List ℕ → Said
rest false headed m k found vs t ds g more = says_from k ds g more
rest true headed m k found vs t ds g more = inside headed m k found vs t ds g more

abbrev pub dues_left : Held → List Due
dues_left h = drop h.lines (dues h.program.now)

-- what the whole text says, by what the reader holds and what is still to come
abbrev pub rest_of : Held → List ℕ → Said
rest_of h more = rest h.begun h.headed h.matched (suc h.lines) h.found h.cells h.token (dues_left h) (given_of h.values) more

-- the same inside a line about this
abbrev pub open_of : Held → Wanted → List ℕ → Said
open_of h w more = inside h.headed h.matched (suc h.lines) h.found h.cells h.token (due_of w ∷ drop (suc h.lines) (dues h.program.now)) (given_of h.values) more

-- the line at hand has begun, and is about this
pub record IsAbout (h : Held) (w : Wanted) : Type 0 where
  pub begun : h.begun ≡ true
  pub due : dues_left h ≡ due_of w ∷ drop (suc h.lines) (dues h.program.now)

-- the same line goes on
pub record IsSameLine (old new : Held) : Type 0 where
  pub program : new.program ≡ old.program
  pub lines : new.lines ≡ old.lines
  pub begun : new.begun ≡ true
  pub given : given_of new.values ≡ given_of old.values

-- the line ends here, and what follows is more
abbrev pub closed : (headed : Bool) (m k found : ℕ) (vs : List ℕ) (t : Option ℕ) → Due → List Due → Given → List ℕ → Said
closed headed m k found vs t d ds g more = line_or k (front headed m (name_of d) t []) (λ ns. after (judged k d g found vs ns) (λ g'. says_from (suc k) ds g' more))

abbrev pub closed_of : Held → Wanted → List ℕ → Said
closed_of h w more = closed h.headed h.matched (suc h.lines) h.found h.cells h.token (due_of w) (drop (suc h.lines) (dues h.program.now)) (given_of h.values) more

-- the number at hand is now among those that were found
abbrev pub Counts : Wanted → Held → Held → Type 0
Counts w old new = (ns : List ℕ) → judged (suc old.lines) (due_of w) (given_of old.values) old.found old.cells (option_to_list old.token ++ ns) ≡ judged (suc old.lines) (due_of w) (given_of old.values) new.found new.cells ns

-- a step: whatever is still to come, the text says the same by what is held before and behind it; or it says the fault
abbrev pub Reads : {A : Type 0} → Result A Halt → (List ℕ → Said) → (List ℕ → Said) → Type 0
Reads (Ok a) old new = (more : List ℕ) → old more ≡ new more
Reads (Err (Fault f)) old new = (more : List ℕ) → old more ≡ Err f
Reads (Err NoMemory) old new = Unit {0}

-- what is said is this, or the fault
abbrev pub Says : {A : Type 0} → Result A Halt → Said → Given → Type 0
Says (Ok a) said g = said ≡ Ok g
Says (Err (Fault f)) said g = said ≡ Err f
Says (Err NoMemory) said g = Unit {0}

-- what a text says where its lines are read
abbrev pub checked : Program → Said → Said
checked p said = after said (λ g. unless (matrices_fault 0 g p.matrices) g)

-- what a reader's text says is what its values are, or the fault
abbrev pub Tells : Result Values Halt → Said → Type 0
Tells (Ok v) said = said ≡ Ok (given_of v)
Tells (Err (Fault f)) said = said ≡ Err f
Tells (Err NoMemory) said = Unit {0}

-- the same for the stop of a caller
abbrev pub TellsStop : Result Values (Stop ValuesFault) → Said → Type 0
TellsStop (Ok v) said = said ≡ Ok (given_of v)
TellsStop (Err (Refused f)) said = said ≡ Err f
TellsStop (Err stop.NoMemory) said = Unit {0}

abbrev pub ReadsStop : Result (Unit {0}) (Stop ValuesFault) → (List ℕ → Said) → (List ℕ → Said) → Type 0
ReadsStop (Ok u) old new = (more : List ℕ) → old more ≡ new more
ReadsStop (Err (Refused f)) old new = (more : List ℕ) → old more ≡ Err f
ReadsStop (Err stop.NoMemory) old new = Unit {0}

-- what a text says by a reader that may have stopped; nothing is known where memory ran out
abbrev pub told : Option Halt → Held → List ℕ → Said
told None h more = rest_of h more
told (Some (Fault f)) h more = Err f
told (Some NoMemory) h more = rest_of h more

-- a halt as a caller sees it
abbrev pub stop_of : Halt → Stop ValuesFault
stop_of (Fault f) = Refused f
stop_of NoMemory = stop.NoMemory

-- what a reader that has stopped answers from then on
abbrev pub Repeats : {A : Type 0} → Option Halt → Result A (Stop ValuesFault) → Type 0
Repeats None result = Unit {0}
Repeats (Some halt) result = result ≡ Err (stop_of halt)

-- a reader that gives a fault, or finds no memory, has stopped with that; else it hasn't stopped
abbrev pub Stops : {A : Type 0} → Result A (Stop ValuesFault) → Option Halt → Type 0
Stops (Ok a) halt = halt ≡ None
Stops (Err stop) None = ⊥
Stops (Err stop) (Some halt) = stop ≡ stop_of halt
