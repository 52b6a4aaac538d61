-- One statement after another: what has to be shown at each.
use Rattle.std.proofs.Common.{◌≡◌, refl, sym, ◌∙◌, subst, ℕ, suc, ◌+◌, ◌<◌, ℤ, pos, ◌+ℤ◌, Bool, true, false, List, [], ◌∷◌, ◌++◌, map, Ok, arith, if◌then◌else◌}
use Rattle.c_meaning.specs.Names.{Name}
use Rattle.c_tree.specs.declared.index.Cell.{Cell}
use Rattle.c_tree.specs.declared.index.Index.{Index}
use Rattle.c_tree.specs.declared.statement.Test.{Test}
use Rattle.c_tree.specs.declared.statement.How.{How}
use Rattle.c_tree.specs.declared.data.Expr.{Expr}
use Rattle.c_tree.specs.declared.program.Kind.{Kind}
use Rattle.c_tree.specs.declared.statement.Stmt.{Stmt}
use Rattle.c_tree.specs.declared.statement.Stmt.TheVariants.{For, If, Assign, Put, Declare, Grow}
use Rattle.c_meaning.specs.Value.{value_of, all_hold}
use Rattle.c_meaning.specs.Names.{Place, child}
use Rattle.c_meaning.specs.Memory.{Memory, Env, sight_of, bound}
use Rattle.c_meaning.specs.Listing.{assigned, scene_of}
use Rattle.c_meaning.specs.Ground.{Step}
use Rattle.c_meaning.specs.Run.{Deed, assign, do_deed, Run, nothing, ◌⨾◌, performs, Part, part, widths, put_step, grow_step, declare_step}
use Rattle.c_meaning.proofs.Parts.{ran-For, ran-If, ran-Assign, ran-Put, ran-Declare, ran-Grow}
use Rattle.inspector_runs.specs.Rules.{Goes, Leads, run_at}
use Rattle.inspector_runs.proofs.Goes.{goes_nothing, goes_then, goes_given, goes_performs, count_goes, in_all}

pub goes_end : (c : Env) (at : Place) (n : ℕ) (m : Memory) (Q : Memory → Type 0) → Q m → Leads [] c at n m 0 Q
goes_end c at n m Q q = record { goes = goes_nothing m Q q }

pub first_goes : (t : Stmt) (ts : List Stmt) (p : Part) → part t ≡ p → (c : Env) (at : Place) (n : ℕ) (m : Memory) (k l : ℕ) (P Q : Memory → Type 0)
    → Goes (p.run c at n) m k P → ((m' : Memory) → P m' → Leads ts c at (n + p.width) m' l Q) → Leads (t ∷ ts) c at n m (k + l) Q
first_goes t ts p e c at n m k l P Q g f = record { goes = subst (λ p. Goes (p.run c at n ⨾ run_at ts c at (n + p.width)) m (k + l) Q) (sym e) (goes_then _ _ m k l P Q g (λ m' q. (f m' q).goes)) }

pub none_first : (ts : List Stmt) (c : Env) (at : Place) (n : ℕ) (m : Memory) (k : ℕ) (Q : Memory → Type 0) → Leads ts c at n m (0 + k) Q → Leads ts c at n m k Q
none_first ts c at n m k Q g = subst (λ k. Leads ts c at n m k Q) (let e : 0 + k ≡ k = omega arith in e) g

pub goes_put : (t : Cell) (e : Index) (ts : List Stmt) (c : Env) (at : Place) (n : ℕ) (m : Memory) (k : ℕ) (Q : Memory → Type 0) (d : Deed) → put_step t e c m ≡ Ok d
    → Leads ts c at (n + 1) (do_deed d m) k Q → Leads (Put t e ∷ ts) c at n m k Q
goes_put t e ts c at n m k Q d h g =
    none_first _ c at n m k Q (first_goes _ ts _ (ran-Put t e) c at n m 0 k (λ m'. m' ≡ do_deed d m) Q
    (goes_given (child at n) (put_step t e c) (performs (child at n)) m 0 _ d h (goes_performs (child at n) d m _ refl))
    (λ m' q. subst (λ m. Leads ts c at (n + 1) m k Q) (sym q) g))

pub goes_grow : (a : Name) (e : Index) (ts : List Stmt) (c : Env) (at : Place) (n : ℕ) (m : Memory) (k : ℕ) (Q : Memory → Type 0) (d : Deed) → grow_step a e c m ≡ Ok d
    → Leads ts c at (n + 1) (do_deed d m) k Q → Leads (Grow a e ∷ ts) c at n m k Q
goes_grow a e ts c at n m k Q d h g =
    none_first _ c at n m k Q (first_goes _ ts _ (ran-Grow a e) c at n m 0 k (λ m'. m' ≡ do_deed d m) Q
    (goes_given (child at n) (grow_step a e c) (performs (child at n)) m 0 _ d h (goes_performs (child at n) d m _ refl))
    (λ m' q. subst (λ m. Leads ts c at (n + 1) m k Q) (sym q) g))

-- a guard around straight statements, and what follows it
guarded : (b : Bool) (F : Run) (m : Memory) (Q : Memory → Type 0) → (b ≡ true → Goes F m 0 Q) → (b ≡ false → Q m) → Goes (if b then F else nothing) m 0 Q
guarded true F m Q f g = f refl
guarded false F m Q f g = goes_nothing m Q (g refl)

pub goes_if : (tests : List Test) (body ts : List Stmt) (c : Env) (at : Place) (n : ℕ) (m : Memory) (k : ℕ) (P Q : Memory → Type 0) (b : Bool) → all_hold tests (sight_of c m) ≡ Ok b
    → (b ≡ true → Leads body c at n m 0 P) → (b ≡ false → P m) → ((m' : Memory) → P m' → Leads ts c at (n + widths (map part body)) m' k Q) → Leads (If tests body ∷ ts) c at n m k Q
goes_if tests body ts c at n m k P Q b h f g r =
    none_first _ c at n m k Q (first_goes _ ts _ (ran-If tests body) c at n m 0 k P Q
    (goes_given (child at n) (λ m. all_hold tests (sight_of c m)) (λ b. if b then run_at body c at n else nothing) m 0 P b h (guarded b _ m P (λ e. (f e).goes) g))
    r)

-- a loop of k turns, and what follows it
pub goes_count : (x : Name) (low high : Index) (body ts : List Stmt) (c : Env) (at : Place) (n : ℕ) (m : Memory) (z : ℕ) (Q : Memory → Type 0) (l : ℤ) (k : ℕ) (t : ℕ → ℕ) (I : ℕ → Memory → Type 0)
    → value_of low (sight_of c m) ≡ Ok l → value_of high (sight_of c m) ≡ Ok (l +ℤ pos k) → I 0 m
    → ((j : ℕ) (m' : Memory) → j < k → I j m' → Leads body (bound x (l +ℤ pos j) c) (child at n ++ (l +ℤ pos j) ∷ []) 0 m' (t j) (I (suc j)))
    → ((m' : Memory) → I k m' → Leads ts c at (n + 1) m' z Q) → Leads (For x low high body ∷ ts) c at n m (in_all k t + z) Q
goes_count x low high body ts c at n m z Q l k t I el eh i f g =
    first_goes _ ts _ (ran-For x low high body) c at n m (in_all k t) z (I k) Q
    (goes_given (child at n) (λ m. value_of low (sight_of c m)) _ m _ _ l el
    (goes_given (child at n) (λ m. value_of high (sight_of c m)) _ m _ _ (l +ℤ pos k) eh
    (count_goes k (λ v. run_at body (bound x v c) (child at n ++ v ∷ []) 0) t I l (λ j m' a i'. (f j m' a i').goes) m i)))
    g

pub weaker : (ts : List Stmt) (c : Env) (at : Place) (n : ℕ) (m : Memory) (k l : ℕ) (P Q : Memory → Type 0) → k ≡ l → ((m' : Memory) → P m' → Q m') → Leads ts c at n m k P → Leads ts c at n m l Q
weaker ts c at n m k l P Q e f g = record { goes = record { ends = g.goes.ends; turned = g.goes.turned ∙ e; meets = f _ g.goes.meets } }

pub goes_declare : (a : Name) (kind : Kind) (inner : List Index) (ts : List Stmt) (c : Env) (at : Place) (n : ℕ) (m : Memory) (k : ℕ) (Q : Memory → Type 0) (d : Deed) → declare_step a kind inner c m ≡ Ok d
    → Leads ts c at (n + 1) (do_deed d m) k Q → Leads (Declare a kind inner ∷ ts) c at n m k Q
goes_declare a kind inner ts c at n m k Q d h g =
    none_first _ c at n m k Q (first_goes _ ts _ (ran-Declare a kind inner) c at n m 0 k (λ m'. m' ≡ do_deed d m) Q
    (goes_given (child at n) (declare_step a kind inner c) (performs (child at n)) m 0 _ d h (goes_performs (child at n) d m _ refl))
    (λ m' q. subst (λ m. Leads ts c at (n + 1) m k Q) (sym q) g))

pub goes_assign : (t : Cell) (how : How) (e : Expr) (ts : List Stmt) (c : Env) (at : Place) (n : ℕ) (m : Memory) (k : ℕ) (Q : Memory → Type 0) (d : Step) → assigned t how e (scene_of c m) ≡ Ok d
    → Leads ts c at (n + 1) (do_deed (assign d) m) k Q → Leads (Assign t how e ∷ ts) c at n m k Q
goes_assign t how e ts c at n m k Q d h g =
    none_first _ c at n m k Q (first_goes _ ts _ (ran-Assign t how e) c at n m 0 k (λ m'. m' ≡ do_deed (assign d) m) Q
    (goes_given (child at n) (λ m. assigned t how e (scene_of c m)) (λ t. performs (child at n) (assign t)) m 0 _ d h (goes_performs (child at n) (assign d) m _ refl))
    (λ m' q. subst (λ m. Leads ts c at (n + 1) m k Q) (sym q) g))
