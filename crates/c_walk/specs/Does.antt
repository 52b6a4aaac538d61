-- What a piece of a run did.
use Rattle.std.specs.Prelude.{◌≡◌, ◌≤◌, ℕ, Bool, true, false, ◌||◌, List, [], ◌∷◌, ◌++◌, Some, None, Result, Ok, Err}
use Rattle.chill_base.specs.Outside.{SinkState, Rose, Wrote, IsProperFront}
use Rattle.c_tree.specs.declared.index.Cell.{Cell}
use Rattle.c_tree.specs.declared.index.Index.{Index}
use Rattle.c_tree.specs.declared.data.Expr.{Expr}
use Rattle.c_tree.specs.declared.program.Kind.{Kind}
use Rattle.c_tree.specs.declared.statement.How.{How}
use Rattle.c_meaning.specs.Names.{Name, Place}
use Rattle.c_meaning.specs.Memory.{Memory, Env}
use Rattle.c_meaning.specs.Ground.{Step}
use Rattle.c_meaning.specs.Listing.{Item, assigned, scene_of}
use Rattle.c_meaning.specs.Run.{Deed, assign, put, declare, grow, Outcome, Run, given, performs, put_step, declare_step, grow_step}
use Rattle.c_trace.specs.Steps.{lines}
use Rattle.c_walk.specs.declared.halt.Halt.{Halt}
use Rattle.c_walk.specs.declared.halt.Halt.TheVariants.{Fault, NoMemory, WriteFault}
use Rattle.c_walk.specs.State.{State, memory_in, with_memory}

-- a declaration and a growth take memory
abbrev pub is_growth : Deed → Bool
is_growth (assign t) = false
is_growth (put a at v) = false
is_growth (declare a kind es) = true
is_growth (grow a n) = true

abbrev pub has_growth : List (Item Deed) → Bool
has_growth [] = false
has_growth (i ∷ is) = is_growth i.step || has_growth is

-- An answer beside the outcome that the definition gives. Memory runs out only where there is a
-- declaration or a growth; what the arrays
-- hold then, and where the sink fails, is left open.
abbrev pub Ends : {A : Type 0} → Result A Halt → Outcome → Memory → Type 0
Ends (Ok a) o m = (o.trouble ≡ None) × (m ≡ o.last)
Ends (Err (Fault place fault)) o m = (o.trouble ≡ Some (record { place = place; fault = fault })) × (m ≡ o.last)
Ends (Err NoMemory) o m = has_growth o.items ≡ true
Ends (Err WriteFault) o m = Unit

-- from the first state to the second; names and loops are as before
pub record Does {A : Type 0} (F : Run) (s s' : State) (r : Result A Halt) : Type 0 where
  pub frame : s' ≡ with_memory (memory_in s') s
  pub ends : Ends r (F (memory_in s)) (memory_in s')

-- what one who is told the assignments of a run from that state is to take
abbrev pub told_of : (Item Step → List ℕ) → Run → State → List ℕ
told_of line F s = lines line (F (memory_in s)).items

-- Beside an answer: all of the text was taken, which ends where the run ends; a front of it where memory ran out, and one
-- that isn't all of it where a line wasn't taken.
abbrev pub Takes : {A : Type 0} → Result A Halt → List ℕ → SinkState → SinkState → Type 0
Takes (Ok a) text before after = Wrote before text after
Takes (Err (Fault place fault)) text before after = Wrote before text after
Takes (Err NoMemory) text before after = (front rest : List ℕ) × (text ≡ front ++ rest) × Wrote before front after
Takes (Err WriteFault) text before after = (front : List ℕ) × IsProperFront front text × Wrote before front after

-- Of one who is to take the text: no count falls, and a line isn't taken only where the count of faults rose.
pub record Told {A : Type 0} (text : List ℕ) (before after : SinkState) (r : Result A Halt) : Type 0 where
  pub later : before.faults ≤ after.faults
  pub cause : r ≡ Err WriteFault → Rose before.faults after.faults
  pub takes : Takes r text before after

-- what doesn't speak of a listener has no write fault
abbrev pub IsQuiet : {A : Type 0} → Result A Halt → Type 0
IsQuiet r = r ≡ Err WriteFault → ⊥

-- the statements without parts, at their place
abbrev pub assignment : Cell → How → Expr → Env → Place → Run
assignment target how value c p = given p (λ m. assigned target how value (scene_of c m)) (λ t. performs p (assign t))

abbrev pub index_assignment : Cell → Index → Env → Place → Run
index_assignment target value c p = given p (put_step target value c) (performs p)

abbrev pub declaration : Name → Kind → List Index → Env → Place → Run
declaration name kind inner c p = given p (declare_step name kind inner c) (performs p)

abbrev pub growth : Name → Index → Env → Place → Run
growth name by c p = given p (grow_step name by c) (performs p)
