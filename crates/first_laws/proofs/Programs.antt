-- A written program and its source.
use Rattle.std.proofs.Common.{◌≡◌, refl, sym, ap, ◌∙◌, subst, Bool, true, false, ◌&&◌, List, [], ◌∷◌, Option, Some, None, if◌then◌else◌}
use Rattle.std.specs.List.{AllByRecursion, list_all}
use Rattle.c_tree.specs.declared.statement.Stmt.{Stmt}
use Rattle.c_tree.specs.declared.program.Array.{Array}
use Rattle.c_tree.specs.declared.program.Program.{Program}
use Rattle.first_form.specs.Nests.{nest}
use Rattle.first_form.specs.Written.{is_none, is_plain, has_plain_signature, with_executor, written_layer, written}
use Rattle.c_meaning.specs.Memory.{Memory}
use Rattle.c_meaning.specs.Inputs.{Input, start}
use Rattle.c_meaning.specs.Ground.{effect}
use Rattle.c_meaning.specs.Listing.{Listing, listing, nothing, ◌⨾◌, scene_of, steps}
use Rattle.c_meaning.specs.Run.{run}
use Rattle.c_meaning.specs.Executors.{Performs, with_cells}
use Rattle.c_meaning.specs.Programs.{inspection, execution, HasSameCells}
use Rattle.c_meaning.proofs.Fitting.{and_left, and_right}
use Rattle.c_meaning.proofs.Executors.{executor_performs}
use Rattle.first_laws.specs.Alike.{HasSameSignature, RunsAlike}
use Rattle.first_laws.proofs.Inversion.{some_is}
use Rattle.first_laws.proofs.Nests.{IsNest, is_nest}

-- the source with this executor
abbrev pub made : Program → Stmt → Program
made p s = record p { matrices = []; inspector = []; executor = s ∷ [] }

pub record IsWritten (p q : Program) : Type 0 where
  pub old : Stmt
  pub new : Stmt
  pub no_matrix : p.matrices ≡ []
  pub no_inspector : p.inspector ≡ []
  pub executor : p.executor ≡ old ∷ []
  pub nested : nest p.params p.arrays old ≡ Some new
  pub is : made p new ≡ q

none_is : {A : Type 0} (xs : List A) → is_none xs ≡ true → xs ≡ []
none_is [] h = refl
none_is (x ∷ xs) h = absurd cc

with_executor_is : (p q : Program) (s : Stmt) (o : Option Stmt) → p.matrices ≡ [] → p.inspector ≡ [] → p.executor ≡ s ∷ [] → nest p.params p.arrays s ≡ o → with_executor p o ≡ Some q → IsWritten p q
with_executor_is p q s (Some s') a b c d h = record { old = s; new = s'; no_matrix = a; no_inspector = b; executor = c; nested = d; is = some_is (made p s') q h }
with_executor_is p q s None a b c d h = absurd cc

layer_is : (p q : Program) (ss : List Stmt) → p.matrices ≡ [] → p.inspector ≡ [] → p.executor ≡ ss → written_layer p ss ≡ Some q → IsWritten p q
layer_is p q (s ∷ []) a b c h = with_executor_is p q s (nest p.params p.arrays s) a b c refl h
layer_is p q [] a b c h = absurd cc
layer_is p q (s ∷ s' ∷ ss) a b c h = absurd cc

plain_is : (p q : Program) (b : Bool) → has_plain_signature p ≡ b → (if b then written_layer p p.executor else None) ≡ Some q → IsWritten p q
plain_is p q true e h =
    let both : (is_none p.matrices && is_none p.inspector) ≡ true = and_left _ (list_all (is_plain p.params) p.arrays) e in
    layer_is p q p.executor (none_is p.matrices (and_left _ _ both)) (none_is p.inspector (and_right (is_none p.matrices) _ both)) refl h
plain_is p q false e h = absurd cc

pub written_is : (p q : Program) → written p ≡ Some q → IsWritten p q
written_is p q h = plain_is p q (has_plain_signature p) refl h

pub same_signature : (p q : Program) → written p ≡ Some q → HasSameSignature p q
same_signature p q h =
    let w : IsWritten p q = written_is p q h in
    subst (HasSameSignature p) w.is (record { name = refl; params = refl; arrays = refl; no_matrix = w.no_matrix; no_new_matrix = refl; no_inspector = w.no_inspector; no_new_inspector = refl })

all_same : (as' : List Array) (m m' : Memory) → m ≡ m' → AllByRecursion (λ a. HasSameCells a m m') as'
all_same [] m m' e = tt
all_same (a ∷ as') m m' e = (
  record {
    extents = ap (λ (m : Memory). m.extents a.name) e;
    index = λ at. ap (λ (m : Memory). m.index a.name at) e;
    cells = λ at. ap (λ (m : Memory). m.cells (record { array = a.name; at = at })) e;
  },
  all_same as' m m' e,
)

runs : (p : Program) (i : Input) (s s' : Stmt) → p.inspector ≡ [] → p.executor ≡ s ∷ [] → IsNest p.params p.arrays s s' → RunsAlike p (made p s') i
runs p i s s' noin ex n =
    let m : Memory = start p i in
    let before : (inspection p i).last ≡ m = ap (λ b. (run b i.value m).last) noin in
    let old : Listing = listing (s ∷ []) (scene_of i.value m) in
    let new : Listing = listing (s' ∷ []) (scene_of i.value m) in
    let lists : new ≡ old = sym (ap (λ (l : Listing). l ⨾ nothing) (n.alike (scene_of i.value m) [] 0)) in
    let listed : listing p.executor (scene_of i.value (inspection p i).last) ≡ old =
    ap (λ b. listing b (scene_of i.value (inspection p i).last)) ex ∙ ap (λ (m : Memory). listing (s ∷ []) (scene_of i.value m)) before in
    let executes : execution p i ≡ run (s ∷ []) i.value m = ap (λ b. run b i.value (inspection p i).last) ex ∙ ap (λ (m : Memory). run (s ∷ []) i.value m) before in
    let was : Performs old m (run (s ∷ []) i.value m) = executor_performs (s ∷ []) i.value m (ap (λ b. b && true) n.old) in
    let now : Performs new m (run (s' ∷ []) i.value m) = executor_performs (s' ∷ []) i.value m (ap (λ b. b && true) n.new) in
    let last : (execution p i).last ≡ (execution (made p s') i).last =
    ap (λ o. o.last) executes ∙ was.last ∙ ap (λ (l : Listing). with_cells (effect (steps l.items) m.cells) m) (sym lists) ∙ sym now.last in
    record {
      list = ap (λ (l : Listing). l.items) (lists ∙ sym listed);
      fine = λ f. record { inspector = refl; executor = now.trouble ∙ ap (λ (l : Listing). l.trouble) lists ∙ sym was.trouble ∙ sym (ap (λ o. o.trouble) executes) ∙ f.executor };
      arrays = all_same p.arrays (execution p i).last (execution (made p s') i).last last;
    }

pub runs_alike : (p q : Program) (i : Input) → written p ≡ Some q → RunsAlike p q i
runs_alike p q i h =
    let w : IsWritten p q = written_is p q h in
    subst (λ q. RunsAlike p q i) w.is (runs p i w.old w.new w.no_inspector w.executor (is_nest p.params p.arrays w.old w.new w.nested))
