-- What stands in an executor, and how many assignments.
use Rattle.std.proofs.Common.{◌≡◌, ℕ, zero, suc, arith, ◌+◌, ◌-◌, ◌≤◌, Bool, true, false, ◌&&◌, List, [], ◌∷◌, length, map, refl, sym, ap, ◌∙◌}
use Rattle.std.specs.Prelude.{Result, Ok, Err, OnOk}
use Rattle.std.specs.List.{list_all}
use Rattle.c_tree.specs.declared.index.Index.{Index}
use Rattle.c_tree.specs.declared.index.Cell.{Cell}
use Rattle.c_tree.specs.declared.data.Expr.{Expr}
use Rattle.c_tree.specs.declared.program.Kind.{Kind}
use Rattle.c_tree.specs.declared.statement.How.{How}
use Rattle.c_tree.specs.declared.statement.Test.{Test}
use Rattle.c_tree.specs.declared.statement.Stmt.{Stmt, Stmt-F, fold_out-Stmt, map-Stmt, out-Stmt}
use Rattle.c_tree.specs.declared.statement.Stmt.TheVariants.{For, If, Assign, Put, Declare, Grow, outs-For, outs-If, outs-Assign, outs-Put, outs-Declare, outs-Grow}
use Rattle.c_tree.specs.declared.statement.Stmt.TheOpen.{For as For-F}
use Rattle.source_limits.specs.Executor.{is_body, executor_layer, is_executed, are_executed}

executed_at : (s : Stmt) (d : Stmt-F Stmt) (l : ℕ) → out-Stmt s ≡ d → is_executed s l ≡ executor_layer (map-Stmt Stmt (ℕ → Bool) is_executed d) l
unfolding is_executed
executed_at s d l h = ap (λ (f : ℕ → Bool). f l) (fold_out-Stmt (ℕ → Bool) executor_layer s) ∙ ap (λ d. executor_layer (map-Stmt Stmt (ℕ → Bool) is_executed d) l) h

and : (x y : Bool) → x && y ≡ true → (x ≡ true) × (y ≡ true)
and true true e = (refl, refl)
and true false e = absurd cc
and false y e = absurd cc

each_in : (k : ℕ) (ss : List Stmt) → list_all (λ (t : ℕ → Bool). t k) (map is_executed ss) ≡ are_executed k ss
each_in k [] = refl
each_in k (s ∷ ss) = ap (λ (b : Bool). is_executed s k && b) (each_in k ss)

body_in : (k : ℕ) (ss : List Stmt) → is_body (map is_executed ss) k ≡ true → (are_executed k ss ≡ true) × (1 ≤ length ss)
body_in k [] e = absurd cc
body_in k (s ∷ ss) e =
    let h = and (is_executed s k) (list_all (λ (t : ℕ → Bool). t k) (map is_executed ss)) e in
    (rw h.0 (sym (each_in k ss) ∙ h.1), omega arith)

inside_loop : (body : List Stmt) (l : ℕ) (x : List ℕ) (low high : Index) → executor_layer (map-Stmt Stmt (ℕ → Bool) is_executed (For-F x low high body)) l ≡ true → (are_executed (l - 1) body ≡ true) × (1 ≤ l) × (1 ≤ length body)
inside_loop body zero x low high e = absurd cc
inside_loop body (suc k) x low high e = let h = body_in k body e in let same : suc k - 1 ≡ k = omega arith in (rw same h.0, omega arith, h.1)

body_of : (k : ℕ) (ss : List Stmt) → are_executed k ss ≡ true → 1 ≤ length ss → is_body (map is_executed ss) k ≡ true
body_of k [] e h = absurd (omega (arith, h))
body_of k (s ∷ ss) e h = ap (λ (b : Bool). is_executed s k && b) (each_in k ss) ∙ e

pub executed-For : (x : List ℕ) (low high : Index) (body : List Stmt) (k : ℕ) → are_executed k body ≡ true → 1 ≤ length body → is_executed (For x low high body) (suc k) ≡ true
executed-For x low high body k e h = executed_at (For x low high body) _ (suc k) (outs-For x low high body) ∙ body_of k body e h

pub executed-If : (tests : List Test) (body : List Stmt) (k : ℕ) → are_executed k body ≡ true → 1 ≤ length body → is_executed (If tests body) k ≡ true
executed-If tests body k e h = executed_at (If tests body) _ k (outs-If tests body) ∙ body_of k body e h

pub executed-Assign : (target : Cell) (how : How) (value : Expr) (k : ℕ) → is_executed (Assign target how value) k ≡ true
executed-Assign target how value k = executed_at (Assign target how value) _ k (outs-Assign target how value)

-- ---- what stands inside
pub inside-For : (s : Stmt) (x : List ℕ) (low high : Index) (body : List Stmt) (l : ℕ) → s ≡ For x low high body → is_executed s l ≡ true → (are_executed (l - 1) body ≡ true) × (1 ≤ l) × (1 ≤ length body)
inside-For s x low high body l is e = inside_loop body l x low high (sym (executed_at (For x low high body) _ l (outs-For x low high body)) ∙ sym (ap (λ (t : Stmt). is_executed t l) is) ∙ e)

pub inside-If : (s : Stmt) (tests : List Test) (body : List Stmt) (l : ℕ) → s ≡ If tests body → is_executed s l ≡ true → (are_executed l body ≡ true) × (1 ≤ length body)
inside-If s tests body l is e = (body_in l body (sym (executed_at (If tests body) _ l (outs-If tests body)) ∙ sym (ap (λ (t : Stmt). is_executed t l) is) ∙ e))

no : {A : Type 0} → false ≡ true → A
no e = absurd cc

pub never-Put : {A : Type 0} (s : Stmt) (target : Cell) (value : Index) (l : ℕ) → s ≡ Put target value → is_executed s l ≡ true → A
never-Put s target value l is e = no (sym (executed_at (Put target value) _ l (outs-Put target value)) ∙ sym (ap (λ (t : Stmt). is_executed t l) is) ∙ e)

pub never-Declare : {A : Type 0} (s : Stmt) (x : List ℕ) (k : Kind) (inner : List Index) (l : ℕ) → s ≡ Declare x k inner → is_executed s l ≡ true → A
never-Declare s x k inner l is e = no (sym (executed_at (Declare x k inner) _ l (outs-Declare x k inner)) ∙ sym (ap (λ (t : Stmt). is_executed t l) is) ∙ e)

pub never-Grow : {A : Type 0} (s : Stmt) (x : List ℕ) (by : Index) (l : ℕ) → s ≡ Grow x by → is_executed s l ≡ true → A
never-Grow s x by l is e = no (sym (executed_at (Grow x by) _ l (outs-Grow x by)) ∙ sym (ap (λ (t : Stmt). is_executed t l) is) ∙ e)

-- what a loop's body keeps, where the loop stands inside so many loops
pub for_inside : (s : Stmt) (x : List ℕ) (low high : Index) (body : List Stmt) (l n : ℕ) (bs : List Stmt) → s ≡ For x low high body → is_executed s (8 - l) ≡ true → n ≡ suc l → bs ≡ body
    → (n ≤ 8) × (are_executed (8 - n) bs ≡ true) × (1 ≤ length bs)
for_inside s x low high body l n bs is e en eb =
    let h = inside-For s x low high body (8 - l) is e in
    let same : 8 - suc l ≡ 8 - l - 1 = omega arith in
    rw (en, eb) (omega (arith, h.1), rw same h.0, h.2)

-- what a guard's body keeps
pub if_inside : (s : Stmt) (tests : List Test) (body : List Stmt) (l n : ℕ) (bs : List Stmt) → l ≤ 8 → s ≡ If tests body → is_executed s (8 - l) ≡ true → n ≡ l → bs ≡ body
    → (n ≤ 8) × (are_executed (8 - n) bs ≡ true) × (1 ≤ length bs)
if_inside s tests body l n bs low is e en eb =
    let h = inside-If s tests body (8 - l) is e in
    rw (en, eb) (low, h.0, h.1)

-- how many assignments are found, where so many stand in a statement
pub found : {T E : Type 0} (r : Result T E) (new old inner whole : ℕ) → whole ≡ inner → OnOk r (new ≡ old + inner) → OnOk r (new ≡ old + whole)
found (Ok x) new old inner whole e h = rw e h
found (Err y) new old inner whole e h = tt
