-- The run of an executor is what its listing says.
use Rattle.std.proofs.Common.{◌≡◌, refl, sym, ap, ◌∙◌, subst, ℕ, zero, suc, ◌+◌, ℤ, pos, ◌+ℤ◌, ◌-ℤ◌, Bool, true, false, ◌&&◌, List, [], ◌∷◌, ◌++◌, map, Option, Some, None, Ok, Err, if◌then◌else◌}
use Rattle.std.specs.List.{AllByRecursion, list_all}
use Rattle.c_tree.specs.declared.index.Cell.{Cell}
use Rattle.c_tree.specs.declared.index.Index.{Index}
use Rattle.c_tree.specs.declared.data.Expr.{Expr}
use Rattle.c_tree.specs.declared.statement.How.{How}
use Rattle.c_tree.specs.declared.statement.Test.{Test}
use Rattle.c_tree.specs.declared.statement.Stmt.{Stmt}
use Rattle.c_tree.specs.declared.statement.Stmt.TheVariants.{For, If, Assign, Put, Declare, Grow}
use Rattle.c_meaning.specs.Names.{Name, Place, child}
use Rattle.c_meaning.specs.Value.{Answer, value_of, all_hold}
use Rattle.c_meaning.specs.Memory.{Memory, Cells, Env, sight_of, bound}
use Rattle.c_meaning.specs.Ground.{Step, perform, effect}
use Rattle.c_meaning.specs.Listing as listing
use Rattle.c_meaning.specs.Listing.{Item, Trouble, Listing, Scene, scene_of, bind, assigned, above_zero, steps}
use Rattle.c_meaning.specs.Run as run
use Rattle.c_meaning.specs.Run.{Deed, assign, Outcome, Run}
use Rattle.c_meaning.specs.Executors.{deeds, with_cells, Performs}
use Rattle.c_meaning.specs.Programs.{is_executor}
use Rattle.c_meaning.proofs.Fitting.{and_left, and_right}
use Rattle.c_meaning.proofs.Parts.{listed-For, listed-If, listed-Assign, ran-For, ran-If, ran-Assign, executes-For, executes-If, executes-Put, executes-Declare, executes-Grow}
use Rattle.c_meaning.proofs.Induction.{Cases, induct_all}

deeds-append : (is js : List (Item Step)) → deeds (is ++ js) ≡ deeds is ++ deeds js
deeds-append [] js = refl
deeds-append (i ∷ is) js = ap (λ l. record { place = i.place; step = assign i.step } ∷ l) (deeds-append is js)

pub effect-append : (is js : List (Item Step)) (s : Cells) → effect (steps (is ++ js)) s ≡ effect (steps js) (effect (steps is) s)
effect-append [] js s = refl
effect-append (i ∷ is) js s = effect-append is js (perform i.step s)

-- nothing was performed
performs_nothing : (m : Memory) → Performs listing.nothing m (run.nothing m)
performs_nothing m = record { items = refl; last = refl; trouble = refl }

-- one piece and then another
then_by : (l k : Listing) (m : Memory) (o p : Outcome) (u v : Option Trouble) → v ≡ u → Performs l m o → Performs k o.last p → Performs (listing.after l u k) m (run.after o v p)
then_by l k m o p None None h a b = record {
  items = ap (λ is. is ++ p.items) a.items ∙ ap (λ is. deeds l.items ++ is) b.items ∙ sym (deeds-append l.items k.items);
  last = b.last ∙ ap (λ n. with_cells (effect (steps k.items) n.cells) n) a.last ∙ ap (λ s. with_cells s m) (sym (effect-append l.items k.items m.cells));
  trouble = b.trouble;
}
then_by l k m o p None (Some t) h a b = cc
then_by l k m o p (Some t) None h a b = cc
then_by l k m o p (Some t) (Some t') h a b = a

performs_then : (l k : Listing) (m : Memory) (F G : Run) → Performs l m (F m) → Performs k (F m).last (G (F m).last) → Performs (listing.◌⨾◌ l k) m (run.◌⨾◌ F G m)
performs_then l k m F G a b = then_by l k m (F m) (G (F m).last) l.trouble (F m).trouble a.trouble a b

-- a value, or its fault
performs_given : {A : Type 0} (at : Place) (a : Answer A) (f : A → Listing) (F : A → Run) (m : Memory) → ((x : A) → Performs (f x) m (F x m)) → Performs (listing.given at a f) m (run.given_by at a F m)
performs_given at (Ok x) f F m h = h x
performs_given at (Err e) f F m h = record { items = refl; last = refl; trouble = refl }

-- assignments leave the scene as it is
same_scene : (c : Env) (m : Memory) (l : Listing) (o : Outcome) → Performs l m o → scene_of c o.last ≡ scene_of c m
same_scene c m l o p = ap (scene_of c) p.last

-- the turns of a loop
performs_turns : (c : Env) (f : Scene → ℤ → Listing) (F : ℤ → Run) → ((v : ℤ) (m : Memory) → Performs (f (scene_of c m) v) m (F v m)) → (k : ℕ) (v : ℤ) (m : Memory)
    → Performs (listing.turns k v (f (scene_of c m))) m (run.turns k v F m)
performs_turns c f F h zero v m = performs_nothing m
performs_turns c f F h (suc k) v m =
    let first : Performs (f (scene_of c m) v) m (F v m) = h v m in
    let first' : Performs (f (scene_of c m) v) m (run.turn (F v) m) = record { items = first.items; last = first.last; trouble = first.trouble } in
    performs_then (f (scene_of c m) v) (listing.turns k (v +ℤ pos 1) (f (scene_of c m))) m (run.turn (F v)) (run.turns k (v +ℤ pos 1) F) first'
    (subst (λ s. Performs (listing.turns k (v +ℤ pos 1) (f s)) (F v m).last (run.turns k (v +ℤ pos 1) F (F v m).last)) (same_scene c m (f (scene_of c m) v) (F v m) first)
    (performs_turns c f F h k (v +ℤ pos 1) (F v m).last))

-- a statement takes as many child positions in both, and its run is what its listing says
record Runs (l : listing.Part) (r : run.Part) : Type 0 where
  width : l.width ≡ r.width
  performs : (c : Env) (at : Place) (n : ℕ) (m : Memory) → Performs (l.listing (scene_of c m) at n) m (r.run c at n m)

abbrev IsRun : Stmt → Type 0
IsRun t = is_executor t ≡ true → Runs (listing.part t) (run.part t)

same_widths : (ts : List Stmt) → AllByRecursion IsRun ts → list_all (λ b. b) (map is_executor ts) ≡ true → listing.widths (map listing.part ts) ≡ run.widths (map run.part ts)
same_widths [] h e = refl
same_widths (t ∷ ts) h e =
    ap (λ n. n + listing.widths (map listing.part ts)) (h.0 (and_left _ _ e)).width
    ∙ ap (λ n. (run.part t).width + n) (same_widths ts h.1 (and_right (is_executor t) _ e))

performs_sequence : (ts : List Stmt) → AllByRecursion IsRun ts → list_all (λ b. b) (map is_executor ts) ≡ true → (c : Env) (at : Place) (n : ℕ) (m : Memory)
    → Performs (listing.sequence (map listing.part ts) (scene_of c m) at n) m (run.sequence (map run.part ts) c at n m)
performs_sequence [] h e c at n m = performs_nothing m
performs_sequence (t ∷ ts) h e c at n m =
    let first : Runs (listing.part t) (run.part t) = h.0 (and_left _ _ e) in
    let p : Performs ((listing.part t).listing (scene_of c m) at n) m ((run.part t).run c at n m) = first.performs c at n m in
    let m' : Memory = ((run.part t).run c at n m).last in
    performs_then _ _ m ((run.part t).run c at n) (run.sequence (map run.part ts) c at (n + (run.part t).width)) p
    (subst (λ w. Performs (listing.sequence (map listing.part ts) (scene_of c m) at (n + w)) m' (run.sequence (map run.part ts) c at (n + (run.part t).width) m')) (sym first.width)
    (subst (λ s. Performs (listing.sequence (map listing.part ts) s at (n + (run.part t).width)) m' (run.sequence (map run.part ts) c at (n + (run.part t).width) m')) (same_scene c m _ _ p)
    (performs_sequence ts h.1 (and_right (is_executor t) _ e) c at (n + (run.part t).width) m')))

runs_as : (l l' : listing.Part) (r r' : run.Part) → l ≡ l' → r ≡ r' → Runs l' r' → Runs l r
runs_as l l' r r' h k a = subst (λ x. Runs x r) (sym h) (subst (Runs l') (sym k) a)

loop_runs : (x : Name) (low high : Index) (body : List Stmt) → AllByRecursion IsRun body → IsRun (For x low high body)
loop_runs x low high body h e =
    runs_as _ _ _ _ (listed-For x low high body) (ran-For x low high body) (record {
      width = refl;
      performs = λ c at n m.
          performs_given (child at n) (value_of low (sight_of c m)) _ _ m (λ l.
          performs_given (child at n) (value_of high (sight_of c m)) _ _ m (λ k.
          performs_turns c (λ s v. listing.sequence (map listing.part body) (bind x v s) (child at n ++ v ∷ []) 0) (λ v. run.sequence (map run.part body) (bound x v c) (child at n ++ v ∷ []) 0)
          (λ v m'. performs_sequence body h (sym (executes-For x low high body) ∙ e) (bound x v c) (child at n ++ v ∷ []) 0 m')
          (above_zero (k -ℤ l)) l m));
    })

chosen : (b : Bool) (l : Listing) (F : Run) (m : Memory) → Performs l m (F m) → Performs (if b then l else listing.nothing) m ((if b then F else run.nothing) m)
chosen true l F m p = p
chosen false l F m p = performs_nothing m

guard_runs : (tests : List Test) (body : List Stmt) → AllByRecursion IsRun body → IsRun (If tests body)
guard_runs tests body h e =
    let e' : list_all (λ b. b) (map is_executor body) ≡ true = sym (executes-If tests body) ∙ e in
    runs_as _ _ _ _ (listed-If tests body) (ran-If tests body) (record {
      width = same_widths body h e';
      performs = λ c at n m.
          performs_given (child at n) (all_hold tests (sight_of c m)) _ _ m (λ b.
          chosen b (listing.sequence (map listing.part body) (scene_of c m) at n) (run.sequence (map run.part body) c at n) m (performs_sequence body h e' c at n m));
    })

assignment_runs : (target : Cell) (how : How) (value : Expr) → IsRun (Assign target how value)
assignment_runs target how value e =
    runs_as _ _ _ _ (listed-Assign target how value) (ran-Assign target how value) (record {
      width = refl;
      performs = λ c at n m. performs_given (child at n) (assigned target how value (scene_of c m)) _ _ m (λ t. record { items = refl; last = refl; trouble = refl });
    })

no_executor : (t : Stmt) → is_executor t ≡ false → IsRun t
no_executor t h e = absurd (let f : false ≡ true = sym h ∙ e in cc)

cases : Cases IsRun
cases = record {
  loop = loop_runs;
  guard = guard_runs;
  assignment = assignment_runs;
  index_assignment = λ target value. no_executor (Put target value) (executes-Put target value);
  declaration = λ name kind inner. no_executor (Declare name kind inner) (executes-Declare name kind inner);
  growth = λ name by. no_executor (Grow name by) (executes-Grow name by);
}

all_mapped : (ts : List Stmt) → list_all is_executor ts ≡ list_all (λ b. b) (map is_executor ts)
all_mapped [] = refl
all_mapped (t ∷ ts) = ap (λ b. is_executor t && b) (all_mapped ts)

pub executor_performs : (body : List Stmt) (c : Env) (m : Memory) → list_all is_executor body ≡ true → Performs (listing.listing body (scene_of c m)) m (run.run body c m)
executor_performs body c m e = performs_sequence body (induct_all IsRun cases body) (sym (all_mapped body) ∙ e) c [] 0 m
