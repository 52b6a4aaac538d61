-- Sizes and counts at each kind of expression and statement.
use Rattle.std.specs.Prelude.{◌≡◌, unsigned_abs, ℕ, ℤ, ◌+◌, ◌*◌, ◌-◌, ◌^◌, ◌≤◌, ◌<◌, min, max, zero, suc, List, [], ◌∷◌, length, drop, refl}
use Rattle.std.proofs.Common.{ap, ◌∙◌, sym, arith, get_or, add-one, ◌⊎◌, inl, inr}
use Rattle.std.proofs.Math.Nat.{mul-le-mul_left}
use Rattle.std.proofs.Math.Seq.{drop-cons}
use Rattle.std.proofs.lemmas.Bool.{cases_lt}
use Rattle.c_tree.specs.declared.index.Index.{Index, Index-F, fold_out-Index, map-Index, out-Index}
use Rattle.c_tree.specs.declared.index.Index.TheVariants.{Const, Var, At, Neg, Plus, Minus, Times, Min, Max, Floor, Ceil, outs-Const, outs-Var, outs-At, outs-Neg, outs-Plus, outs-Minus, outs-Times, outs-Min, outs-Max, outs-Floor, outs-Ceil}
use Rattle.c_tree.specs.declared.index.Subscripts.{Subscripts, fold-Subscripts}
use Rattle.c_tree.specs.declared.index.Cell.{Cell, fold-Cell}
use Rattle.c_tree.specs.declared.statement.Stmt.{Stmt, Stmt-F, fold_out-Stmt, map-Stmt, out-Stmt}
use Rattle.c_tree.specs.declared.statement.Stmt.TheVariants.{For, If, Assign, Put, Declare, Grow, outs-For, outs-If, outs-Assign, outs-Put, outs-Declare, outs-Grow}
use Rattle.c_tree.specs.declared.statement.Test.{Test}
use Rattle.c_tree.specs.declared.statement.How.{How}
use Rattle.c_tree.specs.declared.data.Expr.{Expr}
use Rattle.c_tree.specs.declared.program.Kind.{Kind}
use Rattle.c_judge.specs.declared.limits.Counted.{Counted}
use Rattle.c_judge.specs.declared.limits.Counted.TheVariants as counted
use Rattle.c_judge.specs.Limits.{capped, size_of, size_layer, no_subscripts, no_cell, unit, count_in, count_layer, count_of, plain, declaration, assignment}

abbrev inside : Subscripts → Unit {0}
inside = fold-Subscripts ℕ (Unit {0}) (Unit {0}) size_layer no_subscripts no_cell

abbrev in_cell : Cell → Unit {0}
in_cell = fold-Cell ℕ (Unit {0}) (Unit {0}) size_layer no_subscripts no_cell

size_at : (e : Index) (d : Index-F Index Subscripts Cell) → out-Index e ≡ d → size_of e ≡ size_layer (map-Index Index Subscripts Cell ℕ (Unit {0}) (Unit {0}) size_of inside in_cell d)
unfolding size_of
size_at e d h =
    fold_out-Index ℕ (Unit {0}) (Unit {0}) size_layer no_subscripts no_cell e
    ∙ ap (λ d. size_layer (map-Index Index Subscripts Cell ℕ (Unit {0}) (Unit {0}) size_of inside in_cell d)) h

pub size_const : (n : ℤ) → size_of (Const n) ≡ unsigned_abs n
size_const n = size_at (Const n) _ (outs-Const n)

pub size_var : (x : List ℕ) → size_of (Var x) ≡ unit
size_var x = size_at (Var x) _ (outs-Var x)

pub size_cell : (c : Cell) → size_of (At c) ≡ unit
size_cell c = size_at (At c) _ (outs-At c)

pub size_neg : (a : Index) → size_of (Neg a) ≡ size_of a
size_neg a = size_at (Neg a) _ (outs-Neg a)

pub size_plus : (a b : Index) → size_of (Plus a b) ≡ size_of a + size_of b
size_plus a b = size_at (Plus a b) _ (outs-Plus a b)

pub size_minus : (a b : Index) → size_of (Minus a b) ≡ size_of a + size_of b
size_minus a b = size_at (Minus a b) _ (outs-Minus a b)

pub size_times : (n : ℤ) (a : Index) → size_of (Times n a) ≡ unsigned_abs n * size_of a
size_times n a = size_at (Times n a) _ (outs-Times n a)

pub size_min : (a b : Index) → size_of (Min a b) ≡ max (size_of a) (size_of b)
size_min a b = size_at (Min a b) _ (outs-Min a b)

pub size_max : (a b : Index) → size_of (Max a b) ≡ max (size_of a) (size_of b)
size_max a b = size_at (Max a b) _ (outs-Max a b)

pub size_floor : (a : Index) (n : ℤ) → size_of (Floor a n) ≡ size_of a
size_floor a n = size_at (Floor a n) _ (outs-Floor a n)

pub size_ceil : (a : Index) (n : ℤ) → size_of (Ceil a n) ≡ size_of a
size_ceil a n = size_at (Ceil a n) _ (outs-Ceil a n)

-- ---- sums that stop at 2^64-1

pub part : (now inner left : Index) (total whole : ℕ) → size_of now ≡ size_of inner → left ≡ inner → capped (size_of now + total) ≡ whole → capped (size_of left + total) ≡ whole
part now inner left total whole at is inv = ap (λ (x : Index). capped (size_of x + total)) is ∙ ap (λ (k : ℕ). capped (k + total)) (sym at) ∙ inv

adds : (now left right total more whole : ℕ) → now ≡ left + right → more ≡ min (total + capped right) (2 ^ 64 - 1) → capped (now + total) ≡ whole → capped (left + more) ≡ whole
adds now left right total more whole at em inv = omega arith

pub parts : (now left right l q : Index) (total n more whole : ℕ) → size_of now ≡ size_of left + size_of right → l ≡ left → q ≡ right → n ≡ capped (size_of q)
    → more ≡ min (total + n) (2 ^ 64 - 1) → capped (size_of now + total) ≡ whole → capped (size_of l + more) ≡ whole
parts now left right l q total n more whole at el eq en em inv =
    ap (λ (x : Index). capped (size_of x + more)) el
    ∙ adds (size_of now) (size_of left) (size_of right) total more whole at (em ∙ ap (λ (k : ℕ). min (total + k) (2 ^ 64 - 1)) (en ∙ ap (λ (x : Index). capped (size_of x)) eq)) inv

ends : (now total result whole : ℕ) → result ≡ min (total + now) (2 ^ 64 - 1) → capped (now + total) ≡ whole → result ≡ whole
ends now total result whole er inv = omega arith

capped_ends : (now total last result whole : ℕ) → last ≡ capped now → result ≡ min (total + last) (2 ^ 64 - 1) → capped (now + total) ≡ whole → result ≡ whole
capped_ends now total last result whole el er inv = omega arith

pub leaf : (now : Index) (last total result whole : ℕ) → size_of now ≡ last → result ≡ min (total + last) (2 ^ 64 - 1) → capped (size_of now + total) ≡ whole → result ≡ whole
leaf now last total result whole at er inv = ends (size_of now) total result whole (er ∙ ap (λ (k : ℕ). min (total + k) (2 ^ 64 - 1)) (sym at)) inv

greater : (a b x y : ℕ) → x ≡ capped a → y ≡ capped b → max x y ≡ capped (max a b)
greater a b x y ex ey = omega arith

pub greater_ends : (now left right l q : Index) (x y last total result whole : ℕ) → size_of now ≡ max (size_of left) (size_of right) → l ≡ left → q ≡ right
    → x ≡ capped (size_of l) → y ≡ capped (size_of q) → last ≡ max x y → result ≡ min (total + last) (2 ^ 64 - 1) → capped (size_of now + total) ≡ whole → result ≡ whole
greater_ends now left right l q x y last total result whole at el eq ex ey em er inv =
    capped_ends (size_of now) total last result whole
    (em ∙ greater (size_of left) (size_of right) x y (ex ∙ ap (λ (e : Index). capped (size_of e)) el) (ey ∙ ap (λ (e : Index). capped (size_of e)) eq) ∙ ap capped (sym at)) er inv

past : (a s : ℕ) → 2 ^ 64 - 1 ≤ s → min (a * (2 ^ 64 - 1)) (2 ^ 64 - 1) ≡ min (a * s) (2 ^ 64 - 1)
past zero s h = omega arith
past (suc a) s h =
    let p : 1 * s ≤ suc a * s = omega (arith, mul-le-mul_left s (one a)) in
    omega arith
  where
    one : (a : ℕ) → 1 ≤ suc a
    one a = omega arith

product : (a s : ℕ) → min (a * capped s) (2 ^ 64 - 1) ≡ capped (a * s)
product a s = elim (split s) [ inl h ↦ ap (λ (k : ℕ). min (a * k) (2 ^ 64 - 1)) (below s h) | inr h ↦ ap (λ (k : ℕ). min (a * k) (2 ^ 64 - 1)) (above s h) ∙ past a s h ]
  where
    split : (s : ℕ) → (s < 2 ^ 64 - 1) ⊎ (2 ^ 64 - 1 ≤ s)
    split s = cases_lt s (2 ^ 64 - 1)

    below : (s : ℕ) → s < 2 ^ 64 - 1 → capped s ≡ s
    below s h = omega arith

    above : (s : ℕ) → 2 ^ 64 - 1 ≤ s → capped s ≡ 2 ^ 64 - 1
    above s h = omega arith

pub product_ends : (now : Index) (n : ℤ) (inner q : Index) (a x last total result whole : ℕ) → size_of now ≡ unsigned_abs n * size_of inner → q ≡ inner → a ≡ unsigned_abs n
    → x ≡ capped (size_of q) → last ≡ min (a * x) (2 ^ 64 - 1) → result ≡ min (total + last) (2 ^ 64 - 1) → capped (size_of now + total) ≡ whole → result ≡ whole
product_ends now n inner q a x last total result whole at eq ea ex em er inv =
    capped_ends (size_of now) total last result whole
    (em ∙ ap (λ (k : ℕ). min (k * x) (2 ^ 64 - 1)) ea ∙ ap (λ (k : ℕ). min (unsigned_abs n * k) (2 ^ 64 - 1)) (ex ∙ ap (λ (e : Index). capped (size_of e)) eq)
    ∙ product (unsigned_abs n) (size_of inner) ∙ ap capped (sym at)) er inv

-- ---- statements

count_at : (k : Counted) (s : Stmt) (d : Stmt-F Stmt) → out-Stmt s ≡ d → count_in k s ≡ count_layer k (map-Stmt Stmt ℕ (count_in k) d)
unfolding count_in
count_at k s d h = fold_out-Stmt ℕ (count_layer k) s ∙ ap (λ d. count_layer k (map-Stmt Stmt ℕ (count_in k) d)) h

pub count_for : (k : Counted) (x : List ℕ) (low high : Index) (body : List Stmt) → count_in k (For x low high body) ≡ plain k + count_of k body
count_for k x low high body = count_at k (For x low high body) _ (outs-For x low high body)

pub count_if : (k : Counted) (tests : List Test) (body : List Stmt) → count_in k (If tests body) ≡ plain k + count_of k body
count_if k tests body = count_at k (If tests body) _ (outs-If tests body)

pub count_assign : (k : Counted) (target : Cell) (how : How) (value : Expr) → count_in k (Assign target how value) ≡ assignment k
count_assign k target how value = count_at k (Assign target how value) _ (outs-Assign target how value)

pub count_put : (k : Counted) (target : Cell) (value : Index) → count_in k (Put target value) ≡ plain k
count_put k target value = count_at k (Put target value) _ (outs-Put target value)

pub count_declare : (k : Counted) (x : List ℕ) (kind : Kind) (inner : List Index) → count_in k (Declare x kind inner) ≡ declaration k
count_declare k x kind inner = count_at k (Declare x kind inner) _ (outs-Declare x kind inner)

pub count_grow : (k : Counted) (x : List ℕ) (by : Index) → count_in k (Grow x by) ≡ plain k
count_grow k x by = count_at k (Grow x by) _ (outs-Grow x by)

pub plain_small : (k : Counted) → plain k ≤ 1
plain_small counted.All = omega arith
plain_small counted.Declarations = omega arith
plain_small counted.Assignments = omega arith

pub declaration_small : (k : Counted) → declaration k ≤ 1
declaration_small counted.All = omega arith
declaration_small counted.Declarations = omega arith
declaration_small counted.Assignments = omega arith

pub assignment_small : (k : Counted) → assignment k ≤ 1
assignment_small counted.All = omega arith
assignment_small counted.Declarations = omega arith
assignment_small counted.Assignments = omega arith

pub small : (n : ℕ) → n ≤ 1 → n ≡ capped n
small n h = omega arith

pub own_more : (own inner result now m : ℕ) → own ≤ 1 → m ≡ capped inner → result ≡ min (own + m) (2 ^ 64 - 1) → now ≡ own + inner → result ≡ capped now
own_more own inner result now m s em er en = omega arith

-- one statement more
pub counts_more : (k : Counted) (ss : List Stmt) (i : ℕ) (s : Stmt) → i < length ss → s ≡ get_or ss i s → count_of k (drop i ss) ≡ count_in k s + count_of k (drop (i + 1) ss)
counts_more k ss i s below is =
    ap (count_of k) (drop-cons ss i s below) ∙ ap (λ (x : Stmt). count_in k x + count_of k (drop (suc i) ss)) (sym is) ∙ ap (λ (n : ℕ). count_in k s + count_of k (drop n ss)) (sym (add-one i))

pub adds_one : (k : Counted) (ss : List Stmt) (i total n more whole : ℕ) (s : Stmt) → i < length ss → s ≡ get_or ss i s → n ≡ capped (count_in k s) → more ≡ min (total + n) (2 ^ 64 - 1)
    → capped (count_of k (drop i ss) + total) ≡ whole → capped (count_of k (drop (i + 1) ss) + more) ≡ whole
adds_one k ss i total n more whole s below is en em inv = omega (arith, counts_more k ss i s below is)

drop_all : {A : Type 0} (xs : List A) (i : ℕ) → length xs ≤ i → drop i xs ≡ []
drop_all [] zero h = refl
drop_all [] (suc i) h = refl
drop_all (x ∷ xs) zero h = absurd (omega arith)
drop_all (x ∷ xs) (suc i) h = drop_all xs i (omega arith)

pub adds_all : (k : Counted) (ss : List Stmt) (i total whole : ℕ) → length ss ≤ i → total ≤ 2 ^ 64 - 1 → capped (count_of k (drop i ss) + total) ≡ whole → total ≡ whole
adds_all k ss i total whole past fits inv = omega (arith, ap (count_of k) (drop_all ss i past))
