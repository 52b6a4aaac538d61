-- What the statements of an inspector do.
use Rattle.std.proofs.Common.{ℕ, max, ◌+◌, ◌≤◌, ◌≡◌, pos, refl, sym, ap, ◌∙◌, subst, Bool, true, false, not, ◌&&◌, List, [], ◌∷◌, ◌++◌, length, get_or, nat_le, Option, Some, None, Result, Ok, Err, arith}
use Rattle.std.specs.Prelude.{OnOk}
use Rattle.std.specs.List.{list_all}
use Rattle.c_tree.specs.declared.index.Index.{Index}
use Rattle.c_tree.specs.declared.program.Kind.{Kind}
use Rattle.c_tree.specs.declared.statement.Stmt.{Stmt}
use Rattle.c_meaning.specs.declared.fault.EvalFault.{EvalFault}
use Rattle.c_meaning.specs.Names.{Name, Place, child}
use Rattle.c_meaning.specs.Value.{Answer}
use Rattle.c_meaning.specs.Memory.{Env}
use Rattle.c_meaning.specs.Run.{Run, declare, given_by, performs, declare_step, part}
use Rattle.c_meaning.specs.Scope.{Scope, fits}
use Rattle.c_meaning.proofs.Fitting.{and_left, and_right}
use Rattle.c_meaning.proofs.Parts.{ran-Declare}
use Rattle.c_walk.specs.declared.halt.Halt.{Halt}
use Rattle.c_walk.specs.declared.halt.Halt.TheVariants.{Fault, NoMemory}
use Rattle.c_walk.specs.State.{State, memory_in, with_memory}
use Rattle.c_walk.specs.Ready.{has_array, is_ready}
use Rattle.c_walk.specs.Does.{has_growth, Does, declaration}
use Rattle.c_walk.proofs.Pieces.{Ended, does_given, does_fail}
use Rattle.csr_data.specs.declared.values.Parameter.{Parameter}
use Rattle.csr_data.specs.declared.values.Table.{Table}
use Rattle.c_run.specs.declared.numbers.Variable.{Variable}
use Rattle.c_run.specs.Arrays.{table_of, shape_in, cell_at}
use Rattle.c_run.specs.Store.{state_in}
use Rattle.c_run.specs.Ready.{Declaration, declaration_of, declaration_fits, declared_in, with_array, are_inspectable, scope_behind}
use Rattle.c_run.specs.Inspects.{rescoped, Inspects, inner_extents}
use Rattle.c_run.proofs.Declarations.{is_declared}
use Rattle.c_run.proofs.Growing.{new_table, table_append, scope_with, memory_with, told, step_is}

at_least_one : (n : ℕ) → max 1 (n + 1) ≡ n + 1
at_least_one n = omega arith

-- a declaration
module _ (vs : List Variable) (ps : List Parameter) (ts : List Table) (x : Name) (k : Kind) (inner : List Index) (p : Place) (few : length inner ≤ 2) where
  abbrev before : State
  before = state_in vs ps (shape_in ts) (cell_at ts)

  abbrev env : Env
  env = before.sight.value

  step_of : (r : Answer (List ℕ)) → r ≡ inner_extents inner before.sight → declare_step x k inner env (memory_in before) ≡ told x k r
  step_of r h = step_is x k inner env (memory_in before) few ∙ ap (told x k) (sym h)

  pub declares : (ds : List ℕ) (us : List Table) (u : Unit {0}) → table_of ts x ≡ None → Ok ds ≡ inner_extents inner before.sight → us ≡ ts ++ new_table x k (length inner + 1) (get_or ds 0 0) (get_or ds 1 0) ∷ []
      → Inspects (declaration x k inner env p) (with_array x k (length inner + 1) before.scope) before (state_in vs ps (shape_in us) (cell_at us)) (Ok u)
  declares ds us u new h e =
      let t = new_table x k (length inner + 1) (get_or ds 0 0) (get_or ds 1 0) in
      let more = λ (y : Name). ap (λ us. table_of us y) e ∙ table_append ts t x new refl y in
      let same = memory_with vs ps ts us x k (length inner + 1) (get_or ds 0 0) (get_or ds 1 0) more in
      let arrays = ap memory_in same in
      record {
        does = does_given p (declare_step x k inner env) (declare x k (pos 0 ∷ pos (get_or ds 0 0) ∷ pos (get_or ds 1 0) ∷ [])) (performs p) before (rescoped before.scope (state_in vs ps (shape_in us) (cell_at us))) (Ok u) (step_of (Ok ds) h)
            (record { frame = same ∙ ap (λ m. with_memory m before) (sym arrays); ends = (refl, arrays) });
        scope = scope_with vs ps ts us x k (length inner + 1) (get_or ds 0 0) (get_or ds 1 0) more ∙ ap (λ n. with_array x k n before.scope) (at_least_one (length inner));
      }

  pub has_no_memory : (ds : List ℕ) (us : List Table) → Ok ds ≡ inner_extents inner before.sight → us ≡ ts
      → Inspects {A = Unit {0}} (declaration x k inner env p) (with_array x k (length inner + 1) before.scope) before (state_in vs ps (shape_in us) (cell_at us)) (Err NoMemory)
  has_no_memory ds us h e =
      let same = ap (λ us. rescoped before.scope (state_in vs ps (shape_in us) (cell_at us))) e in
      record {
        does = record { frame = same ∙ ap (λ m. with_memory m before) (sym (ap memory_in same)); ends = ap (λ r. has_growth ((given_by p r (performs p) (memory_in before)).items)) (step_of (Ok ds) h) };
        scope = tt;
      }

  pub has_fault : (f : EvalFault) → Err f ≡ inner_extents inner before.sight
      → Inspects {A = Unit {0}} (declaration x k inner env p) (with_array x k (length inner + 1) before.scope) before before (Err (Fault p f))
  has_fault f h = record { does = does_fail p (declare_step x k inner env) f (performs p) before (step_of (Err f) h); scope = tt }

-- a statement that declares an array is run as its declaration
pub runs_declaration : (t : Stmt) (d : Declaration) (c : Env) (n : ℕ) → declaration_of t ≡ Some d → (part t).run c [] n ≡ declaration d.name d.kind d.inner c (child [] n)
runs_declaration t d c n h = ap (λ t. (part t).run c [] n) (is_declared t d h) ∙ ap (λ p. p.run c [] n) (ran-Declare d.name d.kind d.inner)

pub inspects_as : (F G : Run) (c c' : Scope) (s s' : State) (r : Result (Unit {0}) Halt) → F ≡ G → c ≡ c' → Inspects G c' s s' r → Inspects F c s s' r
inspects_as F G c c' s s' r h k i = subst (λ F. Inspects F c s s' r) (sym h) (subst (λ c. Inspects G c s s' r) (sym k) i)

-- what a declaration asks
module _ (t : Stmt) (d : Declaration) (c : Scope) (h : declaration_of t ≡ Some d) (k : declaration_fits (declaration_of t) t c ≡ true) where
  asked : (not (has_array d.name c) && (nat_le (length d.inner) 2 && list_all (λ e. fits e c) d.inner)) ≡ true
  asked = ap (λ o. declaration_fits o t c) (sym h) ∙ k

  pub name_is_new : has_array d.name c ≡ false
  name_is_new = by (has_array d.name c) (and_left _ _ asked)
    where
      by : (b : Bool) → not b ≡ true → b ≡ false
      by true e = cc
      by false e = refl

  pub few_extents : nat_le (length d.inner) 2 ≡ true
  few_extents = and_left _ _ (and_right (not (has_array d.name c)) _ asked)

  pub extents_fit : list_all (λ e. fits e c) d.inner ≡ true
  extents_fit = and_right (nat_le (length d.inner) 2) _ (and_right (not (has_array d.name c)) _ asked)

pub few_of : (n : ℕ) → nat_le n 2 ≡ true → n ≤ 2
few_of n h = grind arith

-- another statement
pub plain_ready : (t : Stmt) (c : Scope) → declaration_of t ≡ None → declaration_fits (declaration_of t) t c ≡ true → is_ready t c 0 ≡ true
plain_ready t c h k = ap (λ o. declaration_fits o t c) (sym h) ∙ k

-- names are as before where a run's frame says so
pub inspects_plain : (F : Run) (o : Option Declaration) (s s' : State) (r : Ended) → o ≡ None → Does F s s' r → Inspects F (declared_in o s.scope) s s' r
inspects_plain F o s s' r h d =
    let scope : s'.scope ≡ s.scope = ap (λ s. s.scope) d.frame in
    record {
      does = subst (λ t. Does F s t r) (let e : s' ≡ rescoped s.scope s' = ap (λ c. rescoped c s') scope in e) d;
      scope = told_scope r (scope ∙ ap (λ o. declared_in o s.scope) (sym h));
    }
  where
    told_scope : (r : Ended) {c : Scope} → s'.scope ≡ c → OnOk r (s'.scope ≡ c)
    told_scope (Ok u) e = e
    told_scope (Err x) e = tt

-- the same run, whatever the names are
pub with_names : (F : Run) (c : Scope) (s s' : State) (r : Ended) → Does F s s' r → Does F (rescoped c s) (rescoped c s') r
with_names F c s s' r d = record { frame = ap (rescoped c) d.frame; ends = d.ends }

-- the statements that are left
module _ (ts ts' : List Stmt) (t : Stmt) (c : Scope) (h : ts ≡ t ∷ ts') where
  whole : are_inspectable ts c ≡ true → (declaration_fits (declaration_of t) t c && are_inspectable ts' (declared_in (declaration_of t) c)) ≡ true
  whole k = sym (ap (λ ts. are_inspectable ts c) h) ∙ k

  pub fits_first : are_inspectable ts c ≡ true → declaration_fits (declaration_of t) t c ≡ true
  fits_first k = and_left _ _ (whole k)

  pub fits_rest : are_inspectable ts c ≡ true → are_inspectable ts' (declared_in (declaration_of t) c) ≡ true
  fits_rest k = and_right (declaration_fits (declaration_of t) t c) _ (whole k)

  pub behind_rest : scope_behind ts c ≡ scope_behind ts' (declared_in (declaration_of t) c)
  behind_rest = ap (λ ts. scope_behind ts c) h

-- all is run
pub inspects_all : (F : Run) (ts : List Stmt) (c : Scope) (s s' : State) (u : Unit {0}) → Does F s (rescoped s.scope s') (Ok u) → scope_behind ts s'.scope ≡ c → ts ≡ [] → Inspects F c s s' (Ok u)
inspects_all F ts c s s' u d h e = record { does = d; scope = sym (ap (λ ts. scope_behind ts s'.scope) e) ∙ h }
