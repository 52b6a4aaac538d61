-- How the runs of sections end.
use Rattle.std.proofs.Common.{◌≡◌, refl, ap, ◌∙◌, subst, true, false, inl, inr, ℕ, List, [], ◌∷◌, map, length, Ok, Err, arith}
use Rattle.std.specs.List.{list_all}
use Rattle.chill_base.specs.Outside.{SinkState, Rose, Wrote}
use Rattle.c_tree.specs.declared.program.Program.{Program}
use Rattle.c_tree.specs.declared.statement.Stmt.{Stmt}
use Rattle.c_meaning.specs.Memory.{Memory, Env}
use Rattle.c_meaning.specs.Ground.{Step}
use Rattle.c_meaning.specs.Listing.{Item, listing, scene_of}
use Rattle.c_meaning.specs.declared.fault.EvalFault.{EvalFault}
use Rattle.c_meaning.specs.Names.{Place}
use Rattle.c_meaning.specs.Run.{Run, run, part, sequence}
use Rattle.c_meaning.specs.Executors.{deeds}
use Rattle.c_meaning.specs.Programs.{is_executor}
use Rattle.c_meaning.proofs.Executors.{executor_performs}
use Rattle.c_trace.specs.Steps.{lines}
use Rattle.c_walk.specs.State.{State, memory_in, with_memory}
use Rattle.c_walk.specs.Ready.{are_ready, has_array}
use Rattle.c_walk.specs.declared.halt.Halt.{Halt}
use Rattle.c_walk.specs.declared.halt.Halt.TheVariants.{Fault, NoMemory, WriteFault}
use Rattle.c_walk.specs.Does.{has_growth, Ends, Does, Takes, Told, told_of}
use Rattle.c_walk.proofs.Pieces.{Ended}
use Rattle.c_run.specs.declared.fault.Section.{Section}
use Rattle.c_run.specs.declared.fault.RunFault.{RunFault}
use Rattle.c_run.specs.Faults.{fault_at}
use Rattle.c_run.specs.Sections.{Refuses, IsCut}
use Rattle.c_run.specs.Ready.{CanExecute}

assignments_grow_nothing : (is : List (Item Step)) → has_growth (deeds is) ≡ false
assignments_grow_nothing [] = refl
assignments_grow_nothing (i ∷ is) = assignments_grow_nothing is

-- an executor takes no memory
pub no_growth : (body : List Stmt) (c : Env) (m : Memory) → list_all is_executor body ≡ true → has_growth (run body c m).items ≡ true → ⊥
no_growth body c m e h =
    let p = executor_performs body c m e in
    let none : has_growth (run body c m).items ≡ false = ap has_growth p.items ∙ assignments_grow_nothing (listing body (scene_of c m)).items in
    cc

-- a count that stays at 0 doesn't rise
pub never_rose : Rose 0 0 → ⊥
never_rose (inl h) = omega (arith, h)
never_rose (inr h) = omega (arith, h)

-- names and loops are as before
pub still_ready : (p : Program) (s s' : State) → s' ≡ with_memory (memory_in s') s → CanExecute p s → CanExecute p s'
still_ready p s s' h c = record {
  loops = ap (λ s. length s.outer) h ∙ c.loops;
  fits = ap (λ s. are_ready p.executor s.scope 0) h ∙ c.fits;
  simple = c.simple;
  few = c.few;
  arrays = λ k a is. ap (λ s. has_array a.name s.scope) h ∙ c.arrays k a is;
}

-- a section at its place, which is empty
pub ran : (body : List Stmt) (c : Env) (at : Place) (s s' : State) (r : Ended) → at ≡ [] → Does (sequence (map part body) c at 0) s s' r → Does (run body c) s s' r
ran body c at s s' r h d = subst (λ at. Does (sequence (map part body) c at 0) s s' r) h d

-- it ended with a fault
pub refuses_at : (section : Section) (F : Run) (s s' : State) (h : Halt) (p : Place) (f : EvalFault) (g : RunFault) → h ≡ Fault p f → g ≡ fault_at section p f → Does {A = Unit {0}} F s s' (Err h) → Refuses section (F (memory_in s)) g × (memory_in s' ≡ (F (memory_in s)).last)
refuses_at section F s s' h p f g e k d =
    let ends : Ends {A = Unit {0}} (Err (Fault p f)) (F (memory_in s)) (memory_in s') = subst (λ h. Ends {A = Unit {0}} (Err h) (F (memory_in s)) (memory_in s')) e d.ends in
    (record { place = p; fault = f; trouble = ends.0; is = k }, ends.1)

-- what one who was told of a section took
module _ (line : Item Step → List ℕ) (body : List Stmt) (c : Env) (at : Place) (s : State) (h h' : SinkState) (is : at ≡ []) where
  pub took_all : (u : Unit {0}) → Told (told_of line (sequence (map part body) c at 0) s) h h' (Ok u) → Wrote h (lines line ((run body c (memory_in s)).items)) h'
  took_all u t = subst (λ at. Wrote h (told_of line (sequence (map part body) c at 0) s) h') is t.takes

  pub took_before : (x : Halt) (p : Place) (f : EvalFault) → x ≡ Fault p f → Told {A = Unit {0}} (told_of line (sequence (map part body) c at 0) s) h h' (Err x) → Wrote h (lines line ((run body c (memory_in s)).items)) h'
  took_before x p f e t =
      let takes = subst (λ (x : Halt). Takes {A = Unit {0}} (Err x) (told_of line (sequence (map part body) c at 0) s) h h') e t.takes in
      subst (λ at. Wrote h (told_of line (sequence (map part body) c at 0) s) h') is takes

  pub took_front : (x : Halt) → x ≡ WriteFault → Told {A = Unit {0}} (told_of line (sequence (map part body) c at 0) s) h h' (Err x) → IsCut (lines line ((run body c (memory_in s)).items)) h h'
  took_front x e t =
      let takes = subst (λ (x : Halt). Takes {A = Unit {0}} (Err x) (told_of line (sequence (map part body) c at 0) s) h h') e t.takes in
      let cut : IsCut (told_of line (sequence (map part body) c at 0) s) h h' = record { rose = t.cause (ap Err e); front = takes.0; is_front = takes.1; wrote = takes.2 } in
      subst (λ at. IsCut (told_of line (sequence (map part body) c at 0) s) h h') is cut

-- an executor doesn't end for want of memory
pub has_memory : (body : List Stmt) (c : Env) (s s' : State) (h : Halt) → list_all is_executor body ≡ true → h ≡ NoMemory → Does {A = Unit {0}} (run body c) s s' (Err h) → ⊥
has_memory body c s s' h e k d = no_growth body c (memory_in s) e (subst (λ h. Ends {A = Unit {0}} (Err h) (run body c (memory_in s)) (memory_in s')) k d.ends)
