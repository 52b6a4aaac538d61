-- What a statement's run is, at each kind.
use Rattle.std.proofs.Common.{◌≡◌, sym, ap, ◌∙◌, subst, ℕ, ◌+◌, pos, Bool, true, false, List, [], ◌∷◌, length, map, Ok, Err, if◌then◌else◌, length-append}
use Rattle.c_tree.specs.declared.index.Cell.{Cell}
use Rattle.c_tree.specs.declared.index.Index.{Index}
use Rattle.c_tree.specs.declared.program.Kind.{Kind}
use Rattle.c_tree.specs.declared.data.Expr.{Expr}
use Rattle.c_tree.specs.declared.statement.How.{How}
use Rattle.c_tree.specs.declared.statement.Test.{Test}
use Rattle.c_tree.specs.declared.statement.Stmt.{Stmt}
use Rattle.c_tree.specs.declared.statement.Stmt.TheVariants.{For, If, Assign, Put, Declare, Grow}
use Rattle.c_meaning.specs.declared.fault.EvalFault.{EvalFault}
use Rattle.c_meaning.specs.Names.{Name, Place, child}
use Rattle.c_meaning.specs.Value.{all_hold}
use Rattle.c_meaning.specs.Memory.{Env, sight_of}
use Rattle.c_meaning.specs.Run.{Run, nothing, given, part, widths, sequence, for_run}
use Rattle.c_meaning.proofs.Parts.{ran-For, ran-If, ran-Assign, ran-Put, ran-Declare, ran-Grow}
use Rattle.c_walk.specs.declared.halt.Halt.TheVariants.{Fault}
use Rattle.c_walk.specs.State.{State, memory_in}
use Rattle.c_walk.specs.Does.{Does, assignment, index_assignment, growth}
use Rattle.c_walk.proofs.Pieces.{Ended, does_nothing, does_given, does_fail}

pub child_length : (at : Place) (n : ℕ) → length (child at n) ≡ length at + 1
child_length at n = length-append at (pos n ∷ [])

pub width-For : (t : Stmt) (x : Name) (low high : Index) (body : List Stmt) → t ≡ For x low high body → (part t).width ≡ 1
width-For t x low high body h = ap (λ t. (part t).width) h ∙ ap (λ p. p.width) (ran-For x low high body)

pub width-If : (t : Stmt) (tests : List Test) (body : List Stmt) → t ≡ If tests body → (part t).width ≡ widths (map part body)
width-If t tests body h = ap (λ t. (part t).width) h ∙ ap (λ p. p.width) (ran-If tests body)

pub width-Assign : (t : Stmt) (target : Cell) (how : How) (value : Expr) → t ≡ Assign target how value → (part t).width ≡ 1
width-Assign t target how value h = ap (λ t. (part t).width) h ∙ ap (λ p. p.width) (ran-Assign target how value)

pub width-Put : (t : Stmt) (target : Cell) (value : Index) → t ≡ Put target value → (part t).width ≡ 1
width-Put t target value h = ap (λ t. (part t).width) h ∙ ap (λ p. p.width) (ran-Put target value)

pub width-Declare : (t : Stmt) (name : Name) (kind : Kind) (inner : List Index) → t ≡ Declare name kind inner → (part t).width ≡ 1
width-Declare t name kind inner h = ap (λ t. (part t).width) h ∙ ap (λ p. p.width) (ran-Declare name kind inner)

pub width-Grow : (t : Stmt) (name : Name) (by : Index) → t ≡ Grow name by → (part t).width ≡ 1
width-Grow t name by h = ap (λ t. (part t).width) h ∙ ap (λ p. p.width) (ran-Grow name by)

-- the run at the place that the code made is the statement's own
module _ (t : Stmt) (c : Env) (at here : Place) (n : ℕ) (e : here ≡ child at n) where
  pub same-For : (x : Name) (low high : Index) (body : List Stmt) → t ≡ For x low high body → for_run x low high (map part body) c here ≡ (part t).run c at n
  same-For x low high body h = ap (for_run x low high (map part body) c) e ∙ ap (λ p. p.run c at n) (sym (ran-For x low high body)) ∙ ap (λ t. (part t).run c at n) (sym h)

  pub same-Assign : (target : Cell) (how : How) (value : Expr) → t ≡ Assign target how value → assignment target how value c here ≡ (part t).run c at n
  same-Assign target how value h = ap (assignment target how value c) e ∙ ap (λ p. p.run c at n) (sym (ran-Assign target how value)) ∙ ap (λ t. (part t).run c at n) (sym h)

  pub same-Put : (target : Cell) (value : Index) → t ≡ Put target value → index_assignment target value c here ≡ (part t).run c at n
  same-Put target value h = ap (index_assignment target value c) e ∙ ap (λ p. p.run c at n) (sym (ran-Put target value)) ∙ ap (λ t. (part t).run c at n) (sym h)

  pub same-Grow : (name : Name) (by : Index) → t ≡ Grow name by → growth name by c here ≡ (part t).run c at n
  same-Grow name by h = ap (growth name by c) e ∙ ap (λ p. p.run c at n) (sym (ran-Grow name by)) ∙ ap (λ t. (part t).run c at n) (sym h)

-- so what it did is what the statement does
module _ (t : Stmt) (c : Env) (at here : Place) (n : ℕ) (s s' : State) (r : Ended) (e : here ≡ child at n) where
  pub does-For : (x : Name) (low high : Index) (body : List Stmt) → t ≡ For x low high body → Does (for_run x low high (map part body) c here) s s' r → Does ((part t).run c at n) s s' r
  does-For x low high body h d = subst (λ F. Does F s s' r) (same-For t c at here n e x low high body h) d

  pub does-Assign : (target : Cell) (how : How) (value : Expr) → t ≡ Assign target how value → Does (assignment target how value c here) s s' r → Does ((part t).run c at n) s s' r
  does-Assign target how value h d = subst (λ F. Does F s s' r) (same-Assign t c at here n e target how value h) d

  pub does-Put : (target : Cell) (value : Index) → t ≡ Put target value → Does (index_assignment target value c here) s s' r → Does ((part t).run c at n) s s' r
  does-Put target value h d = subst (λ F. Does F s s' r) (same-Put t c at here n e target value h) d

  pub does-Grow : (name : Name) (by : Index) → t ≡ Grow name by → Does (growth name by c here) s s' r → Does ((part t).run c at n) s s' r
  does-Grow name by h d = subst (λ F. Does F s s' r) (same-Grow t c at here n e name by h) d

-- a guard
module _ (t : Stmt) (c : Env) (at : Place) (n : ℕ) (tests : List Test) (body : List Stmt) (h : t ≡ If tests body) where
  chosen : Bool → Run
  chosen b = if b then sequence (map part body) c at n else nothing

  pub guard_is : given (child at n) (λ m. all_hold tests (sight_of c m)) (λ b. if b then sequence (map part body) c at n else nothing) ≡ (part t).run c at n
  guard_is = ap (λ p. p.run c at n) (sym (ran-If tests body)) ∙ ap (λ t. (part t).run c at n) (sym h)

  pub does_body : (s s' : State) (r : Ended) → all_hold tests (sight_of c (memory_in s)) ≡ Ok true → Does (sequence (map part body) c at n) s s' r → Does ((part t).run c at n) s s' r
  does_body s s' r k d = subst (λ F. Does F s s' r) guard_is (does_given (child at n) (λ m. all_hold tests (sight_of c m)) true (λ b. if b then sequence (map part body) c at n else nothing) s s' r k d)

  pub passes : (s : State) (u : Unit {0}) → all_hold tests (sight_of c (memory_in s)) ≡ Ok false → Does ((part t).run c at n) s s (Ok u)
  passes s u k = subst (λ F. Does F s s (Ok u)) guard_is (does_given (child at n) (λ m. all_hold tests (sight_of c m)) false (λ b. if b then sequence (map part body) c at n else nothing) s s (Ok u) k (does_nothing s u))

  pub no_test : (s : State) (here : Place) (e : EvalFault) → here ≡ child at n → all_hold tests (sight_of c (memory_in s)) ≡ Err e → Does {A = Unit {0}} ((part t).run c at n) s s (Err (Fault here e))
  no_test s here e p k =
      subst (λ q. Does {A = Unit {0}} ((part t).run c at n) s s (Err (Fault q e))) (sym p)
      (subst (λ F. Does {A = Unit {0}} F s s (Err (Fault (child at n) e))) guard_is (does_fail (child at n) (λ m. all_hold tests (sight_of c m)) e (λ b. if b then sequence (map part body) c at n else nothing) s k))
