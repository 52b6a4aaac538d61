-- By the rules, what an executor names is in scope.
use Rattle.std.proofs.Common.{◌≡◌, inl, inr, ℕ, ◌+◌, Bool, true, false, ◌&&◌, ◌||◌, List, [], ◌∷◌, ◌++◌, map, length, take, Option, Some, None, Ok, refl, sym, ◌∙◌, ap, subst, append_assoc, append-nil}
use Rattle.std.specs.Prelude.{bytes_eq, if◌then◌else◌}
use Rattle.std.specs.List.{list_any, AllByRecursion}
use Rattle.std.specs.Option.{option_or}
use Rattle.std.proofs.lemmas.Bool.{cases_Bool}
use Rattle.std.proofs.Math.Seq.{take-append_seam}
use Rattle.c_tree.specs.declared.data.Expr.{Expr, Expr-F, ind-Expr, map-Expr, roll-Expr}
use Rattle.c_tree.specs.declared.data.Expr.TheOpen as open_expr
use Rattle.c_tree.specs.declared.data.Expr.TheVariants as expr
use Rattle.c_tree.specs.declared.index.Cell.{Cell}
use Rattle.c_tree.specs.declared.index.Index.{Index}
use Rattle.c_tree.specs.declared.index.Index.TheOpen as layer
use Rattle.c_tree.specs.declared.index.Index.TheVariants as tree
use Rattle.c_tree.specs.declared.index.Subscripts.{Subscripts, Subscripts-F, map-Subscripts, fold_out-Subscripts, out-Subscripts}
use Rattle.c_tree.specs.declared.program.Array.{Array}
use Rattle.c_tree.specs.declared.program.Kind.{Kind}
use Rattle.c_tree.specs.declared.program.Kind.TheVariants as kind
use Rattle.c_tree.specs.declared.program.Program.{Program}
use Rattle.c_tree.specs.declared.statement.Stmt.{Stmt}
use Rattle.c_tree.specs.declared.statement.Stmt.TheVariants.{Put, Declare, Grow, outs-Put, outs-Declare, outs-Grow}
use Rattle.c_tree.specs.declared.statement.Test.{Test}
use Rattle.c_judge.specs.declared.names.Part.TheVariants as part
use Rattle.c_judge.specs.declared.scope.Meaning.{Meaning}
use Rattle.c_judge.specs.declared.scope.Meaning.TheVariants as meaning
use Rattle.c_judge.specs.declared.uses.Rule.TheVariants.{InScope}
use Rattle.c_judge.specs.Names.{Names, Fault, find, enter}
use Rattle.c_judge.specs.Outcomes.{Outcome, one_by_one}
use Rattle.c_judge.specs.Signature.{signature}
use Rattle.c_judge.specs.Statements.{judged, judged_all, new_fault, loop_fault, loop_outcome, test_fault, tests_fault, target_fault, assign_fault, put_statement_fault, declare_fault, grow_statement_fault}
use Rattle.c_judge.specs.Uses.{Inside, index_fault, inside, index_cell_fault, index_layer, subscripts_layer, cell_layer, number_fault, cell_fault, expr_fault}
use Rattle.c_judge.proofs.UsesAt.{at_cell, at_var, at_at, at_neg, at_plus, at_minus, at_times, at_min, at_max, at_floor, at_ceil, at_one, at_two, at_three, of_at, of_plus, of_minus, of_times}
use Rattle.c_judge.proofs.StatementsAt.{judged_for, judged_if, judged_assign, judged_put, judged_declare, judged_grow}
use Rattle.c_meaning.specs.Inputs.{array_named}
use Rattle.c_meaning.specs.Names.{Name, same_name}
use Rattle.c_meaning.proofs.Induction.{induct_all}
use Rattle.csr_data.specs.Parameters.{has}
use Rattle.csr_data.proofs.Fits.{none_first, none_second}
use Rattle.run_laws.proofs.Choices.{no_fault, then_outcome, went_on, was_left}
use Rattle.run_laws.proofs.Found.{find_enter, signed, find_signature}
use Rattle.executors.specs.Executors.{Executor, done, idle, joined, in_front, executor_of}
use Rattle.executors.proofs.Equations.{front_at, front-For, front-If, front-Assign}
use Rattle.acceptance.specs.Around.{cells_of, subscripts_of}
use Rattle.acceptance.specs.Expressions.{Expression, number, name, one, two, three, negated, plus, minus, times, lesser, greater, floor, ceil, plain, plains, index_of}
use Rattle.acceptance.proofs.Equations.{plains_at, cells_at}
use Rattle.acceptance_laws.specs.Formed.{is_in_scope}
use Rattle.acceptance_laws.specs.Seen.{IsInScope, AreTestsScoped, IsExecutorScoped}
use Rattle.acceptance_laws.proofs.Plain.{plain_back}

-- the numbers that the rules know are these names
pub record Covers (names : Names) (front : List Name) : Type 0 where
  pub numbers : (x : Name) → find names x ≡ Some meaning.Value → list_any (λ y. bytes_eq y x) front ≡ true
  pub known : (x : Name) → list_any (λ y. bytes_eq y x) front ≡ true → find names x ≡ None → ⊥

both : (a b : Bool) → a ≡ true → b ≡ true → (a && b) ≡ true
both true b h k = k
both false b h k = cc

all-append : {A : Type 0} (P : A → Type 0) (xs ys : List A) → AllByRecursion P xs → AllByRecursion P ys → AllByRecursion P (xs ++ ys)
all-append P [] ys h k = k
all-append P (x ∷ xs) ys h k = (h.0, all-append P xs ys h.1 k)

subscripts-append : (xs ys : List Cell) → subscripts_of (xs ++ ys) ≡ subscripts_of xs ++ subscripts_of ys
subscripts-append [] ys = refl
subscripts-append (x ∷ xs) ys = ap (λ (l : List Expression). plains x.at ++ l) (subscripts-append xs ys) ∙ sym (append_assoc (plains x.at) (subscripts_of xs) (subscripts_of ys))

module _ (names : Names) (front : List Name) (covers : Covers names front) where
  abbrev fault : Index → Fault
  fault e = index_fault InScope names e

  is_value : (x : Name) (m : Option Meaning) → find names x ≡ m → number_fault x m ≡ None → list_any (λ y. bytes_eq y x) front ≡ true
  is_value x None e h = absurd cc
  is_value x (Some meaning.Value) e h = covers.numbers x e
  is_value x (Some (meaning.Array k n g)) e h = absurd cc

  scoped-two : (a b : Expression) (o : Fault) → o ≡ option_or (fault (index_of a)) (fault (index_of b)) → o ≡ None → (fault (index_of a) ≡ None → is_in_scope front a ≡ true) → (fault (index_of b) ≡ None → is_in_scope front b ≡ true)
      → (is_in_scope front a && is_in_scope front b) ≡ true
  scoped-two a b o e h p q = let none = sym e ∙ h in both (is_in_scope front a) (is_in_scope front b) (p (none_first (fault (index_of a)) (fault (index_of b)) none)) (q (none_second (fault (index_of a)) (fault (index_of b)) none))

  -- what stands in a cell has no fault
  inside_cell : (a : Name) (s : Subscripts) → fault (tree.At (record { array = a; at = s })) ≡ None → (inside InScope names s).fault ≡ None
  inside_cell a s h =
      let c : Cell = record { array = a; at = s } in
      none_second (cell_fault InScope names kind.Position a (inside InScope names s).count) (inside InScope names s).fault (sym (at_cell InScope names c) ∙ sym (at_at InScope names c) ∙ h)

  scoped-expression : (x : Expression) → fault (index_of x) ≡ None → is_in_scope front x ≡ true
  scoped-expression (number n) h = refl
  scoped-expression (name x) h = is_value x (find names x) refl (sym (at_var InScope names x) ∙ h)
  scoped-expression (one a e) h = scoped-expression e (ap (λ (i : Inside). i.fault) (sym (at_one InScope names (index_of e))) ∙ inside_cell a _ h)
  scoped-expression (two a e f) h =
      scoped-two e f _ refl (ap (λ (i : Inside). i.fault) (sym (at_two InScope names (index_of e) (index_of f))) ∙ inside_cell a _ h) (scoped-expression e) (scoped-expression f)
  scoped-expression (three a e f g) h =
      let none = ap (λ (i : Inside). i.fault) (sym (at_three InScope names (index_of e) (index_of f) (index_of g))) ∙ inside_cell a _ h in
      both (is_in_scope front e) (is_in_scope front f && is_in_scope front g)
      (scoped-expression e (none_first (fault (index_of e)) (option_or (fault (index_of f)) (fault (index_of g))) none))
      (scoped-two f g _ refl (none_second (fault (index_of e)) (option_or (fault (index_of f)) (fault (index_of g))) none) (scoped-expression f) (scoped-expression g))
  scoped-expression (negated e) h = scoped-expression e (sym (at_neg InScope names (index_of e)) ∙ h)
  scoped-expression (plus e f) h = scoped-two e f _ (at_plus InScope names (index_of e) (index_of f)) h (scoped-expression e) (scoped-expression f)
  scoped-expression (minus e f) h = scoped-two e f _ (at_minus InScope names (index_of e) (index_of f)) h (scoped-expression e) (scoped-expression f)
  scoped-expression (times n e) h = scoped-expression e (sym (at_times InScope names n (index_of e)) ∙ h)
  scoped-expression (lesser e f) h = scoped-two e f _ (at_min InScope names (index_of e) (index_of f)) h (scoped-expression e) (scoped-expression f)
  scoped-expression (greater e f) h = scoped-two e f _ (at_max InScope names (index_of e) (index_of f)) h (scoped-expression e) (scoped-expression f)
  scoped-expression (floor e d) h = scoped-expression e (sym (at_floor InScope names (index_of e) d) ∙ h)
  scoped-expression (ceil e d) h = scoped-expression e (sym (at_ceil InScope names (index_of e) d) ∙ h)

  pub scoped : (e : Index) → fault e ≡ None → IsInScope front (plain e)
  scoped e h = scoped-expression (plain e) (ap fault (plain_back e) ∙ h)

  -- ---- subscripts and right sides
  inside-at : (s : Subscripts) (d : Subscripts-F Index Subscripts Cell) → out-Subscripts s ≡ d
      → inside InScope names s ≡ subscripts_layer InScope names (map-Subscripts Index Subscripts Cell Fault Inside Fault (index_fault InScope names) (inside InScope names) (index_cell_fault InScope names) d)
  unfolding index_fault inside index_cell_fault
  inside-at s d h =
      fold_out-Subscripts Fault Inside Fault (index_layer InScope names) (subscripts_layer InScope names) (cell_layer InScope names) s
      ∙ ap (λ (d : Subscripts-F Index Subscripts Cell). subscripts_layer InScope names (map-Subscripts Index Subscripts Cell Fault Inside Fault (index_fault InScope names) (inside InScope names) (index_cell_fault InScope names) d)) h

  pub scoped-subscripts : (s : Subscripts) → (inside InScope names s).fault ≡ None → AllByRecursion (IsInScope front) (plains s)
  scoped-subscripts s = by (out-Subscripts s) refl
    where
      by : (d : Subscripts-F Index Subscripts Cell) → out-Subscripts s ≡ d → (inside InScope names s).fault ≡ None → AllByRecursion (IsInScope front) (plains s)
      by (layer.One a) e h =
          let none = ap (λ (i : Inside). i.fault) (sym (inside-at s _ e)) ∙ h in
          subst (AllByRecursion (IsInScope front)) (sym (plains_at s _ e)) (scoped a none, tt)
      by (layer.Two a b) e h =
          let none = ap (λ (i : Inside). i.fault) (sym (inside-at s _ e)) ∙ h in
          subst (AllByRecursion (IsInScope front)) (sym (plains_at s _ e)) (scoped a (none_first (fault a) (fault b) none), (scoped b (none_second (fault a) (fault b) none), tt))
      by (layer.Three a b c) e h =
          let none = ap (λ (i : Inside). i.fault) (sym (inside-at s _ e)) ∙ h in
          let more = none_second (fault a) (option_or (fault b) (fault c)) none in
          subst (AllByRecursion (IsInScope front)) (sym (plains_at s _ e))
          (scoped a (none_first (fault a) (option_or (fault b) (fault c)) none), (scoped b (none_first (fault b) (fault c) more), (scoped c (none_second (fault b) (fault c) more), tt)))

  abbrev IsRightScoped : Expr → Type 0
  IsRightScoped e = expr_fault InScope names e ≡ None → AllByRecursion (IsInScope front) (subscripts_of (cells_of e))

  right-two : (e a b : Expr) → cells_of e ≡ cells_of a ++ cells_of b → expr_fault InScope names e ≡ option_or (expr_fault InScope names a) (expr_fault InScope names b) → IsRightScoped a → IsRightScoped b → IsRightScoped e
  right-two e a b c f p q h =
      let none = sym f ∙ h in
      subst (λ (cs : List Cell). AllByRecursion (IsInScope front) (subscripts_of cs)) (sym c)
      (subst (AllByRecursion (IsInScope front)) (sym (subscripts-append (cells_of a) (cells_of b)))
      (all-append (IsInScope front) (subscripts_of (cells_of a)) (subscripts_of (cells_of b)) (p (none_first (expr_fault InScope names a) (expr_fault InScope names b) none)) (q (none_second (expr_fault InScope names a) (expr_fault InScope names b) none))))

  right_layer : {A : Type 0} (f : A → Expr) (g : (a : A) → IsRightScoped (f a)) (y : Expr-F A) → IsRightScoped (roll-Expr (map-Expr A Expr f y))
  right_layer f g (open_expr.Const n) = subst IsRightScoped (sym (expr.rolls-Const n)) (λ h. subst (λ (cs : List Cell). AllByRecursion (IsInScope front) (subscripts_of cs)) (sym (cells_at (expr.Const n) _ (expr.outs-Const n))) tt)
  right_layer f g (open_expr.At c) = subst IsRightScoped (sym (expr.rolls-At c)) (λ h.
      let none = none_second (cell_fault InScope names kind.Number c.array (inside InScope names c.at).count) (inside InScope names c.at).fault (sym (of_at InScope names c) ∙ h) in
      subst (λ (cs : List Cell). AllByRecursion (IsInScope front) (subscripts_of cs)) (sym (cells_at (expr.At c) _ (expr.outs-At c)))
      (all-append (IsInScope front) (plains c.at) [] (scoped-subscripts c.at none) tt))
  right_layer f g (open_expr.Plus a b) = subst IsRightScoped (sym (expr.rolls-Plus (f a) (f b))) (right-two (expr.Plus (f a) (f b)) (f a) (f b) (cells_at (expr.Plus (f a) (f b)) _ (expr.outs-Plus (f a) (f b))) (of_plus InScope names (f a) (f b)) (g a) (g b))
  right_layer f g (open_expr.Minus a b) = subst IsRightScoped (sym (expr.rolls-Minus (f a) (f b))) (right-two (expr.Minus (f a) (f b)) (f a) (f b) (cells_at (expr.Minus (f a) (f b)) _ (expr.outs-Minus (f a) (f b))) (of_minus InScope names (f a) (f b)) (g a) (g b))
  right_layer f g (open_expr.Times a b) = subst IsRightScoped (sym (expr.rolls-Times (f a) (f b))) (right-two (expr.Times (f a) (f b)) (f a) (f b) (cells_at (expr.Times (f a) (f b)) _ (expr.outs-Times (f a) (f b))) (of_times InScope names (f a) (f b)) (g a) (g b))

  pub scoped-right : (e : Expr) → IsRightScoped e
  scoped-right = ind-Expr IsRightScoped (λ x y e. subst (λ d. IsRightScoped (roll-Expr d)) e (right_layer (λ e. e.0) (λ e. e.1) y))

  scoped-tests : (ts : List Test) → tests_fault names ts ≡ None → AreTestsScoped front ts
  scoped-tests [] h = tt
  scoped-tests (t ∷ ts) h =
      let own = none_first (test_fault names t) (tests_fault names ts) h in (
        scoped t.left (none_first (fault t.left) (fault t.right) own),
        scoped t.right (none_second (fault t.left) (fault t.right) own),
        scoped-tests ts (none_second (test_fault names t) (tests_fault names ts) h),
      )

-- ---- statements
-- names that came into scope stand behind those that were there
abbrev Grows : Names → Names → Type 0
Grows names left = (more : Names) × (left ≡ names ++ more)

grows-on : (a b c : Names) → Grows a b → Grows b c → Grows a c
grows-on a b c h k = (h.0 ++ k.0, k.1 ∙ ap (λ (l : Names). l ++ k.0) h.1 ∙ append_assoc a h.0 k.0)

same_left : (names left : Names) → (let o : Outcome = Ok names in o) ≡ Ok left → left ≡ names
same_left names left h = cc

grows-none : (names left : Names) → left ≡ names → Grows names left
grows-none names left e = ([], e ∙ sym (append-nil names))

behind-loop : (names left m : Names) (x : Name) → Grows (enter names x meaning.Value) m → take (length names) m ≡ left → left ≡ names
behind-loop names left m x g h =
    sym h ∙ ap (take (length names)) (g.1 ∙ append_assoc names ((x, meaning.Value) ∷ []) g.0) ∙ take-append_seam names ((x, meaning.Value) ∷ g.0)

-- a loop's variable comes into scope
covers-inside : (names : Names) (front : List Name) (x : Name) → Covers names front → Covers (enter names x meaning.Value) (front ++ x ∷ [])
covers-inside names front x covers = record {
  numbers = λ y h. numbers y (find names y) refl (same_name x y) refl (sym (find_enter names x y meaning.Value) ∙ h);
  known = λ y h k. known y (find names y) refl (same_name x y) refl h (sym (find_enter names x y meaning.Value) ∙ k);
}
  where
    at_end : (y : Name) (ns : List Name) → same_name x y ≡ true → list_any (λ z. bytes_eq z y) (ns ++ x ∷ []) ≡ true
    at_end y [] e = rw e refl
    at_end y (n ∷ ns) e = elim (cases_Bool (bytes_eq n y)) [ inl t ↦ rw t refl | inr t ↦ rw t (at_end y ns e) ]

    at_front : (y : Name) (ns : List Name) → list_any (λ z. bytes_eq z y) ns ≡ true → list_any (λ z. bytes_eq z y) (ns ++ x ∷ []) ≡ true
    at_front y [] e = absurd cc
    at_front y (n ∷ ns) e = elim (cases_Bool (bytes_eq n y)) [ inl t ↦ rw t refl | inr t ↦ rw t (at_front y ns (rw t at e)) ]

    not_end : (y : Name) (ns : List Name) → same_name x y ≡ false → list_any (λ z. bytes_eq z y) (ns ++ x ∷ []) ≡ true → list_any (λ z. bytes_eq z y) ns ≡ true
    not_end y [] e h = (let k = rw e at h in k)
    not_end y (n ∷ ns) e h = elim (cases_Bool (bytes_eq n y)) [ inl t ↦ rw t refl | inr t ↦ rw t (not_end y ns e (rw t at h)) ]

    numbers : (y : Name) (m : Option Meaning) → find names y ≡ m → (b : Bool) → same_name x y ≡ b → option_or m (if b then Some meaning.Value else None) ≡ Some meaning.Value → list_any (λ z. bytes_eq z y) (front ++ x ∷ []) ≡ true
    numbers y None e true s h = at_end y front s
    numbers y None e false s h = absurd cc
    numbers y (Some m) e b s h = at_front y front (covers.numbers y (e ∙ h))

    known : (y : Name) (m : Option Meaning) → find names y ≡ m → (b : Bool) → same_name x y ≡ b → list_any (λ z. bytes_eq z y) (front ++ x ∷ []) ≡ true → option_or m (if b then Some meaning.Value else None) ≡ None → ⊥
    known y None e true s h k = cc
    known y None e false s h k = covers.known y (not_end y front s h) e
    known y (Some m) e b s h k = cc

-- an array comes into scope
covers-array : (names : Names) (front : List Name) (x : Name) (k : Kind) (n : ℕ) (g : Bool) → Covers names front → Covers (enter names x (meaning.Array k n g)) front
covers-array names front x k n g covers = record {
  numbers = λ y h. numbers y (find names y) refl (same_name x y) (sym (find_enter names x y (meaning.Array k n g)) ∙ h);
  known = λ y h l. covers.known y h (none y (find names y) refl (same_name x y) (sym (find_enter names x y (meaning.Array k n g)) ∙ l));
}
  where
    numbers : (y : Name) (m : Option Meaning) → find names y ≡ m → (b : Bool) → option_or m (if b then Some (meaning.Array k n g) else None) ≡ Some meaning.Value → list_any (λ z. bytes_eq z y) front ≡ true
    numbers y None e true h = absurd cc
    numbers y None e false h = absurd cc
    numbers y (Some m) e b h = covers.numbers y (e ∙ h)

    none : (y : Name) (m : Option Meaning) → find names y ≡ m → (b : Bool) → option_or m (if b then Some (meaning.Array k n g) else None) ≡ None → find names y ≡ None
    none y None e b h = e
    none y (Some m) e b h = absurd cc

-- what a statement is, in front of others, where it was judged in scope
record Judges (front : List Name) (names left : Names) (place : Executor → Executor) : Type 0 where
  scoped : (rest : Executor) → IsExecutorScoped front rest → IsExecutorScoped front (place rest)
  covers : Covers left front
  grows : Grows names left

abbrev IsStatementScoped : Stmt → Type 0
IsStatementScoped t = (names left : Names) (front : List Name) → Covers names front → judged part.Executor t names ≡ Ok left → Judges front names left (in_front t)

all-scoped : (ts : List Stmt) → AllByRecursion IsStatementScoped ts → (names left : Names) (front : List Name) → Covers names front → judged_all part.Executor ts names ≡ Ok left → Judges front names left (joined (map in_front ts))
all-scoped [] h names left front c j =
    let e = same_left names left j in
    record { scoped = λ rest r. r; covers = subst (λ (n : Names). Covers n front) (sym e) c; grows = grows-none names left e }
all-scoped (t ∷ ts) h names left front c j =
    let o = went_on (judged part.Executor t names) (judged_all part.Executor ts) left j in
    let first = h.0 names o.0 front c o.1.0 in
    let rest = all-scoped ts h.1 o.0 left front first.covers o.1.1 in
    record { scoped = λ more r. first.scoped (joined (map in_front ts) more) (rest.scoped more r); covers = rest.covers; grows = grows-on names o.0 left first.grows rest.grows }

-- a statement that is none of an executor
idles : (t : Stmt) (names left : Names) (front : List Name) → ((rest : Executor) → in_front t rest ≡ idle rest) → Covers left front → Grows names left → Judges front names left (in_front t)
idles t names left front e c g = record { scoped = λ rest r. subst (IsExecutorScoped front) (sym (e rest)) r; covers = c; grows = g }

front-idle : (t : Stmt) (names left : Names) (front : List Name) → Covers names front → left ≡ names → ((rest : Executor) → in_front t rest ≡ idle rest) → Judges front names left (in_front t)
front-idle t names left front c e f = idles t names left front f (subst (λ (n : Names). Covers n front) (sym e) c) (grows-none names left e)

not_known : (names : Names) (front : List Name) (x : Name) → Covers names front → new_fault x (find names x) ≡ None → list_any (λ y. bytes_eq y x) front ≡ false
not_known names front x c h = by (find names x) refl h
  where
    by : (m : Option Meaning) → find names x ≡ m → new_fault x m ≡ None → list_any (λ y. bytes_eq y x) front ≡ false
    by None e h = elim (cases_Bool (list_any (λ y. bytes_eq y x) front)) [ inl t ↦ absurd (c.known x t e) | inr t ↦ t ]
    by (Some m) e h = absurd cc

statements : (ts : List Stmt) → AllByRecursion IsStatementScoped ts
statements = induct_all IsStatementScoped (record {
  loop = λ x low high body h names left front c j. (
      let is = sym (judged_for part.Executor x low high body names) ∙ j in
      let none = no_fault (loop_fault names x low high) (loop_outcome part.Executor x body names) left is in
      let bounds = none_second (new_fault x (find names x)) (option_or (index_fault InScope names low) (index_fault InScope names high)) none in
      let o = was_left (length names) (one_by_one (map (judged part.Executor) body) (enter names x meaning.Value)) left (then_outcome (loop_fault names x low high) (loop_outcome part.Executor x body names) left is) in
      let inner = all-scoped body h (enter names x meaning.Value) o.0 (front ++ x ∷ []) (covers-inside names front x c) o.1.0 in
      let e : left ≡ names = behind-loop names left o.0 x inner.grows o.1.1 in
      record {
        scoped = λ rest r. subst (IsExecutorScoped front) (sym (front-For x low high body rest)) (
          scoped names front c low (none_first (index_fault InScope names low) (index_fault InScope names high) bounds),
          scoped names front c high (none_second (index_fault InScope names low) (index_fault InScope names high) bounds),
          not_known names front x c (none_first (new_fault x (find names x)) (option_or (index_fault InScope names low) (index_fault InScope names high)) none),
          inner.scoped done tt,
          r,
        );
        covers = subst (λ (n : Names). Covers n front) (sym e) c;
        grows = grows-none names left e;
      });
  guard = λ tests body h names left front c j. (
      let is = sym (judged_if part.Executor tests body names) ∙ j in
      let inner = all-scoped body h names left front c (then_outcome (tests_fault names tests) (judged_all part.Executor body names) left is) in
      record {
        scoped = λ rest r. subst (IsExecutorScoped front) (sym (front-If tests body rest)) (scoped-tests names front c tests (no_fault (tests_fault names tests) (judged_all part.Executor body names) left is), inner.scoped done tt, r);
        covers = inner.covers;
        grows = inner.grows;
      });
  assignment = λ target how value names left front c j. (
      let is = sym (judged_assign part.Executor target how value names) ∙ j in
      let none = no_fault (assign_fault names part.Executor target value) (Ok names) left is in
      let e : left ≡ names = same_left names left (then_outcome (assign_fault names part.Executor target value) (Ok names) left is) in
      let i : Inside = inside InScope names target.at in
      let behind = none_second (target_fault part.Executor target.array i.count (find names target.array)) (option_or i.fault (expr_fault InScope names value)) none in
      record {
        scoped = λ rest r. subst (IsExecutorScoped front) (sym (front-Assign target how value rest)) (
          all-append (IsInScope front) (plains target.at) (subscripts_of (cells_of value))
              (scoped-subscripts names front c target.at (none_first i.fault (expr_fault InScope names value) behind))
              (scoped-right names front c value (none_second i.fault (expr_fault InScope names value) behind)),
          r,
        );
        covers = subst (λ (n : Names). Covers n front) (sym e) c;
        grows = grows-none names left e;
      });
  index_assignment = λ target value names left front c j. front-idle (Put target value) names left front c
      (same_left names left (then_outcome (put_statement_fault names target value) (Ok names) left (sym (judged_put part.Executor target value names) ∙ j)))
      (λ rest. ap (λ f. f rest) (front_at (Put target value) _ (outs-Put target value)));
  declaration = λ x k inner names left front c j. (
      let is = sym (judged_declare part.Executor x k inner names) ∙ j in
      let e = same_left (enter names x (meaning.Array k (length inner + 1) true)) left (then_outcome (declare_fault names x inner) (Ok (enter names x (meaning.Array k (length inner + 1) true))) left is) in
      idles (Declare x k inner) names left front (λ rest. ap (λ f. f rest) (front_at (Declare x k inner) _ (outs-Declare x k inner)))
      (subst (λ (n : Names). Covers n front) (sym e) (covers-array names front x k (length inner + 1) true c))
      ((x, meaning.Array k (length inner + 1) true) ∷ [], e));
  growth = λ x by names left front c j. front-idle (Grow x by) names left front c
      (same_left names left (then_outcome (grow_statement_fault names x by) (Ok names) left (sym (judged_grow part.Executor x by names) ∙ j)))
      (λ rest. ap (λ f. f rest) (front_at (Grow x by) _ (outs-Grow x by)));
})

-- ---- the signature
has-any : (xs : List Name) (x : Name) → has xs x ≡ list_any (λ y. bytes_eq y x) xs
has-any [] x = refl
has-any (y ∷ ys) x = ap (λ (b : Bool). bytes_eq y x || b) (has-any ys x)

pub covers-signature : (p : Program) → Covers (signature p) p.params
covers-signature p = record {
  numbers = λ x h. sym (has-any p.params x) ∙ numbers (has p.params x) (array_named x p.arrays) (sym (find_signature p x) ∙ h);
  known = λ x h k. known (has p.params x) (array_named x p.arrays) (has-any p.params x ∙ h) (sym (find_signature p x) ∙ k);
}
  where
    numbers : (b : Bool) (o : Option Array) → signed b o ≡ Some meaning.Value → b ≡ true
    numbers true o h = refl
    numbers false None h = absurd cc
    numbers false (Some a) h = absurd cc

    known : (b : Bool) (o : Option Array) → b ≡ true → signed b o ≡ None → ⊥
    known true o h k = cc
    known false o h k = cc

-- an executor that was judged behind the signature is scoped
pub executor_scoped : (p : Program) (left : Names) → judged_all part.Executor p.executor (signature p) ≡ Ok left → IsExecutorScoped p.params (executor_of p.executor)
executor_scoped p left h = (all-scoped p.executor (statements p.executor) (signature p) left p.params (covers-signature p) h).scoped done tt
