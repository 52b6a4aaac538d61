-- By the rules, the cells of an executor have as many subscripts as their arrays have extents.
use Rattle.std.proofs.Common.{◌≡◌, inl, inr, ℕ, Bool, true, false, ◌&&◌, List, [], ◌∷◌, ◌++◌, map, length, take, Option, Some, None, Ok, refl, sym, ◌∙◌, ap, subst}
use Rattle.std.specs.Prelude.{if◌then◌else◌}
use Rattle.std.specs.List.{list_all, AllByRecursion}
use Rattle.std.specs.Option.{option_or}
use Rattle.std.proofs.Math.Seq.{take-append_seam}
use Rattle.c_tree.specs.declared.data.Expr.{Expr, Expr-F, ind-Expr, map-Expr, roll-Expr}
use Rattle.c_tree.specs.declared.data.Expr.TheOpen as open_expr
use Rattle.c_tree.specs.declared.data.Expr.TheVariants as expr
use Rattle.c_tree.specs.declared.index.Cell.{Cell}
use Rattle.c_tree.specs.declared.index.Index.{Index}
use Rattle.c_tree.specs.declared.index.Index.TheOpen as layer
use Rattle.c_tree.specs.declared.index.Subscripts.{Subscripts, Subscripts-F, map-Subscripts, fold_out-Subscripts, out-Subscripts}
use Rattle.c_tree.specs.declared.program.Array.{Array}
use Rattle.c_tree.specs.declared.program.Kind.{Kind}
use Rattle.c_tree.specs.declared.program.Kind.TheVariants as kind
use Rattle.c_tree.specs.declared.program.Program.{Program}
use Rattle.c_tree.specs.declared.statement.Stmt.{Stmt}
use Rattle.c_tree.specs.declared.statement.Test.{Test}
use Rattle.c_judge.specs.declared.names.Part.TheVariants as part
use Rattle.c_judge.specs.declared.scope.Meaning.{Meaning}
use Rattle.c_judge.specs.declared.scope.Meaning.TheVariants as meaning
use Rattle.c_judge.specs.declared.uses.Rule.TheVariants.{InScope}
use Rattle.c_judge.specs.Names.{Names, Fault, find, enter}
use Rattle.c_judge.specs.Outcomes.{Outcome, one_by_one}
use Rattle.c_judge.specs.Signature.{signature}
use Rattle.c_judge.specs.Statements.{judged, judged_all, loop_fault, loop_outcome, tests_fault, target_fault, assign_fault}
use Rattle.c_judge.specs.Uses.{Inside, index_fault, inside, index_cell_fault, index_layer, subscripts_layer, cell_layer, array_fault, cell_fault, expr_fault}
use Rattle.c_judge.proofs.UsesAt.{of_at, of_plus, of_minus, of_times}
use Rattle.c_judge.proofs.StatementsAt.{judged_for, judged_if, judged_assign}
use Rattle.c_meaning.specs.Inputs.{array_named}
use Rattle.c_meaning.specs.Names.{Name, same_name}
use Rattle.c_meaning.specs.Programs.{is_executor}
use Rattle.c_meaning.proofs.Induction.{induct_all}
use Rattle.c_meaning.proofs.Parts.{executes-For, executes-If, executes-Put, executes-Declare, executes-Grow}
use Rattle.csr_data.specs.Parameters.{has}
use Rattle.csr_data.proofs.Fits.{none_first, none_second}
use Rattle.run_laws.proofs.Choices.{no_fault, then_outcome, went_on, was_left}
use Rattle.run_laws.proofs.Found.{find_enter, signed, find_signature}
use Rattle.run_laws.proofs.Indexes.{same_count}
use Rattle.nest_tree.specs.Lists.{IsIn}
use Rattle.nest_laws.proofs.Lists.{in_append}
use Rattle.executors.specs.Executors.{Executor, done, idle, assign, loop, guard, joined, in_front, executor_of, width, assignments, first_loops}
use Rattle.executors.proofs.Equations.{front-For, front-If, front-Assign}
use Rattle.acceptance.specs.Around.{cells_of}
use Rattle.acceptance.specs.Expressions.{Expression, plains}
use Rattle.acceptance.specs.Visits.{Visit, Spot, visits, test_visits, into, past, past_all, next}
use Rattle.acceptance.proofs.Equations.{plains_at, cells_at}
use Rattle.acceptance_laws.specs.Safe.{cells_asked}

-- each cell of an executor's assignments
abbrev pub CellsHold : (Cell → Type 0) → Executor → Type 0
CellsHold P done = Unit
CellsHold P (idle rest) = CellsHold P rest
CellsHold P (assign target how value rest) = AllByRecursion P (target ∷ cells_of value) × CellsHold P rest
CellsHold P (loop x low high body rest) = CellsHold P body × CellsHold P rest
CellsHold P (guard tests body rest) = CellsHold P body × CellsHold P rest

tests-hold : (P : Cell → Type 0) (ts : List Test) (s : Spot) (inner : List Name) (v : Visit) → IsIn v (test_visits ts s inner) → AllByRecursion P (cells_asked v.asked)
tests-hold P [] s inner v a = absurd a
tests-hold P (t ∷ ts) s inner v (inl e) = subst (λ (u : Visit). AllByRecursion P (cells_asked u.asked)) (sym e) tt
tests-hold P (t ∷ ts) s inner v (inr a) = tests-hold P ts (past t s) inner v a

-- hold where they are visited
pub visits-hold : (P : Cell → Type 0) (x : Executor) (s : Spot) → CellsHold P x → (v : Visit) → IsIn v (visits x s) → AllByRecursion P (cells_asked v.asked)
visits-hold P done s h v a = absurd a
visits-hold P (idle rest) s h v a = visits-hold P rest (next 1 0 s) h v a
visits-hold P (assign target how value rest) s h v (inl e) = subst (λ (u : Visit). AllByRecursion P (cells_asked u.asked)) (sym e) h.0
visits-hold P (assign target how value rest) s h v (inr a) = visits-hold P rest (next 1 1 s) h.1 v a
visits-hold P (loop x low high body rest) s h v (inl e) = subst (λ (u : Visit). AllByRecursion P (cells_asked u.asked)) (sym e) tt
visits-hold P (loop x low high body rest) s h v (inr a) =
    elim (in_append v (visits body (into x low high s)) (visits rest (next 1 (assignments body) s)) a) [ inl b ↦ visits-hold P body (into x low high s) h.0 v b | inr b ↦ visits-hold P rest (next 1 (assignments body) s) h.1 v b ]
visits-hold P (guard tests body rest) s h v a =
    elim (in_append v (test_visits tests s (first_loops body)) (visits body (past_all tests s) ++ visits rest (next (width body) (assignments body) s)) a) [
      | inl b ↦ tests-hold P tests s (first_loops body) v b
      | inr b ↦ elim (in_append v (visits body (past_all tests s)) (visits rest (next (width body) (assignments body) s)) b) [ inl c ↦ visits-hold P body (past_all tests s) h.0 v c | inr c ↦ visits-hold P rest (next (width body) (assignments body) s) h.1 v c ]
    ]

all-append : {A : Type 0} (P : A → Type 0) (xs ys : List A) → AllByRecursion P xs → AllByRecursion P ys → AllByRecursion P (xs ++ ys)
all-append P [] ys h k = k
all-append P (x ∷ xs) ys h k = (h.0, all-append P xs ys h.1 k)

-- as many subscripts as are judged
count-at : (names : Names) (s : Subscripts) → (inside InScope names s).count ≡ length (plains s)
unfolding index_fault inside index_cell_fault
count-at names s = by (out-Subscripts s) refl
  where
    inside-at : (d : Subscripts-F Index Subscripts Cell) → out-Subscripts s ≡ d
        → inside InScope names s ≡ subscripts_layer InScope names (map-Subscripts Index Subscripts Cell Fault Inside Fault (index_fault InScope names) (inside InScope names) (index_cell_fault InScope names) d)
    inside-at d h =
        fold_out-Subscripts Fault Inside Fault (index_layer InScope names) (subscripts_layer InScope names) (cell_layer InScope names) s
        ∙ ap (λ (d : Subscripts-F Index Subscripts Cell). subscripts_layer InScope names (map-Subscripts Index Subscripts Cell Fault Inside Fault (index_fault InScope names) (inside InScope names) (index_cell_fault InScope names) d)) h

    by : (d : Subscripts-F Index Subscripts Cell) → out-Subscripts s ≡ d → (inside InScope names s).count ≡ length (plains s)
    by (layer.One a) e = ap (λ (i : Inside). i.count) (inside-at _ e) ∙ sym (ap (λ (l : List Expression). length l) (plains_at s _ e))
    by (layer.Two a b) e = ap (λ (i : Inside). i.count) (inside-at _ e) ∙ sym (ap (λ (l : List Expression). length l) (plains_at s _ e))
    by (layer.Three a b c) e = ap (λ (i : Inside). i.count) (inside-at _ e) ∙ sym (ap (λ (l : List Expression). length l) (plains_at s _ e))

first_is : (b c : Bool) → (b && c) ≡ true → (b ≡ true) × (c ≡ true)
first_is true c h = (refl, h)
first_is false c h = absurd cc

module _ (p : Program) where
  -- a cell of an array of the signature, with as many subscripts as this has extents
  pub record IsDimmed (c : Cell) : Type 0 where
    pub array : Array
    pub is : array_named c.array p.arrays ≡ Some array
    pub count : length array.extents ≡ length (plains c.at)

  -- the arrays in scope are those of the signature
  abbrev AreOf : Names → Type 0
  AreOf names = (x : Name) (k : Kind) (n : ℕ) (g : Bool) → find names x ≡ Some (meaning.Array k n g) → (a : Array) × (array_named x p.arrays ≡ Some a) × (length a.extents ≡ n)

  of_signature : AreOf (signature p)
  of_signature x k n g h = by (has p.params x) (array_named x p.arrays) refl (sym (find_signature p x) ∙ h)
    where
      by : (b : Bool) (o : Option Array) → array_named x p.arrays ≡ o → signed b o ≡ Some (meaning.Array k n g) → (a : Array) × (array_named x p.arrays ≡ Some a) × (length a.extents ≡ n)
      by true o e h = absurd cc
      by false None e h = absurd cc
      by false (Some a) e h = (a, e, cc)

  of_inside : (names : Names) (x : Name) → AreOf names → AreOf (enter names x meaning.Value)
  of_inside names x all y k n g h = by (find names y) refl (same_name x y) (sym (find_enter names x y meaning.Value) ∙ h)
    where
      by : (m : Option Meaning) → find names y ≡ m → (b : Bool) → option_or m (if b then Some meaning.Value else None) ≡ Some (meaning.Array k n g) → (a : Array) × (array_named y p.arrays ≡ Some a) × (length a.extents ≡ n)
      by None e true h = absurd cc
      by None e false h = absurd cc
      by (Some m) e b h = all y k n g (e ∙ h)

  module _ (names : Names) (of : AreOf names) where
    dimmed : (c : Cell) (k : Kind) (n : ℕ) (g : Bool) → find names c.array ≡ Some (meaning.Array k n g) → n ≡ (inside InScope names c.at).count → IsDimmed c
    dimmed c k n g h e = let a = of c.array k n g h in record { array = a.0; is = a.1; count = a.2 ∙ e ∙ count-at names c.at }

    target : (c : Cell) → target_fault part.Executor c.array (inside InScope names c.at).count (find names c.array) ≡ None → IsDimmed c
    target c h = by (find names c.array) refl h
      where
        by : (m : Option Meaning) → find names c.array ≡ m → target_fault part.Executor c.array (inside InScope names c.at).count m ≡ None → IsDimmed c
        by None e h = absurd cc
        by (Some meaning.Value) e h = absurd cc
        by (Some (meaning.Array kind.Number n g)) e h = dimmed c kind.Number n g e (same_count c.array n (inside InScope names c.at).count h)
        by (Some (meaning.Array kind.Position n g)) e h = dimmed c kind.Position n g e (same_count c.array n (inside InScope names c.at).count h)

    loaded : (c : Cell) → cell_fault InScope names kind.Number c.array (inside InScope names c.at).count ≡ None → IsDimmed c
    loaded c h = by (find names c.array) refl h
      where
        by : (m : Option Meaning) → find names c.array ≡ m → array_fault kind.Number c.array (inside InScope names c.at).count m ≡ None → IsDimmed c
        by None e h = absurd cc
        by (Some meaning.Value) e h = absurd cc
        by (Some (meaning.Array kind.Number n g)) e h = dimmed c kind.Number n g e (same_count c.array n (inside InScope names c.at).count h)
        by (Some (meaning.Array kind.Position n g)) e h = absurd cc

    abbrev AreLoaded : Expr → Type 0
    AreLoaded e = expr_fault InScope names e ≡ None → AllByRecursion IsDimmed (cells_of e)

    two : (e a b : Expr) → cells_of e ≡ cells_of a ++ cells_of b → expr_fault InScope names e ≡ option_or (expr_fault InScope names a) (expr_fault InScope names b) → AreLoaded a → AreLoaded b → AreLoaded e
    two e a b c f p q h =
        let none = sym f ∙ h in
        subst (AllByRecursion IsDimmed) (sym c) (all-append IsDimmed (cells_of a) (cells_of b) (p (none_first (expr_fault InScope names a) (expr_fault InScope names b) none)) (q (none_second (expr_fault InScope names a) (expr_fault InScope names b) none)))

    right_layer : {A : Type 0} (f : A → Expr) (g : (a : A) → AreLoaded (f a)) (y : Expr-F A) → AreLoaded (roll-Expr (map-Expr A Expr f y))
    right_layer f g (open_expr.Const n) = subst AreLoaded (sym (expr.rolls-Const n)) (λ h. subst (AllByRecursion IsDimmed) (sym (cells_at (expr.Const n) _ (expr.outs-Const n))) tt)
    right_layer f g (open_expr.At c) = subst AreLoaded (sym (expr.rolls-At c)) (λ h.
        subst (AllByRecursion IsDimmed) (sym (cells_at (expr.At c) _ (expr.outs-At c)))
        (loaded c (none_first (cell_fault InScope names kind.Number c.array (inside InScope names c.at).count) (inside InScope names c.at).fault (sym (of_at InScope names c) ∙ h)), tt))
    right_layer f g (open_expr.Plus a b) = subst AreLoaded (sym (expr.rolls-Plus (f a) (f b))) (two (expr.Plus (f a) (f b)) (f a) (f b) (cells_at (expr.Plus (f a) (f b)) _ (expr.outs-Plus (f a) (f b))) (of_plus InScope names (f a) (f b)) (g a) (g b))
    right_layer f g (open_expr.Minus a b) = subst AreLoaded (sym (expr.rolls-Minus (f a) (f b))) (two (expr.Minus (f a) (f b)) (f a) (f b) (cells_at (expr.Minus (f a) (f b)) _ (expr.outs-Minus (f a) (f b))) (of_minus InScope names (f a) (f b)) (g a) (g b))
    right_layer f g (open_expr.Times a b) = subst AreLoaded (sym (expr.rolls-Times (f a) (f b))) (two (expr.Times (f a) (f b)) (f a) (f b) (cells_at (expr.Times (f a) (f b)) _ (expr.outs-Times (f a) (f b))) (of_times InScope names (f a) (f b)) (g a) (g b))

    right : (e : Expr) → AreLoaded e
    right = ind-Expr AreLoaded (λ x y e. subst (λ d. AreLoaded (roll-Expr d)) e (right_layer (λ e. e.0) (λ e. e.1) y))

  -- ---- statements
  -- a statement of an executor brings no name, and its cells have their dimensions
  record Dims (names left : Names) (place : Executor → Executor) : Type 0 where
    stays : left ≡ names
    hold : (rest : Executor) → CellsHold IsDimmed rest → CellsHold IsDimmed (place rest)

  abbrev HasDims : Stmt → Type 0
  HasDims t = is_executor t ≡ true → (names left : Names) → AreOf names → judged part.Executor t names ≡ Ok left → Dims names left (in_front t)

  same_left : (names left : Names) → (let o : Outcome = Ok names in o) ≡ Ok left → left ≡ names
  same_left names left h = cc

  all-dims : (ts : List Stmt) → AllByRecursion HasDims ts → list_all (λ b. b) (map is_executor ts) ≡ true → (names left : Names) → AreOf names → judged_all part.Executor ts names ≡ Ok left → Dims names left (joined (map in_front ts))
  all-dims [] h x names left of j = record { stays = same_left names left j; hold = λ rest r. r }
  all-dims (t ∷ ts) h x names left of j =
      let b = first_is (is_executor t) (list_all (λ b. b) (map is_executor ts)) x in
      let o = went_on (judged part.Executor t names) (judged_all part.Executor ts) left j in
      let first = h.0 b.0 names o.0 of o.1.0 in
      let rest = all-dims ts h.1 b.1 o.0 left (subst AreOf (sym first.stays) of) o.1.1 in
      record { stays = rest.stays ∙ first.stays; hold = λ more r. first.hold (joined (map in_front ts) more) (rest.hold more r) }

  statements : (ts : List Stmt) → AllByRecursion HasDims ts
  statements = induct_all HasDims (record {
    loop = λ x low high body h b names left of j. (
        let is = sym (judged_for part.Executor x low high body names) ∙ j in
        let o = was_left (length names) (one_by_one (map (judged part.Executor) body) (enter names x meaning.Value)) left (then_outcome (loop_fault names x low high) (loop_outcome part.Executor x body names) left is) in
        let inner = all-dims body h (sym (executes-For x low high body) ∙ b) (enter names x meaning.Value) o.0 (of_inside names x of) o.1.0 in
        record {
          stays = sym o.1.1 ∙ ap (λ (m : Names). take (length names) m) inner.stays ∙ take-append_seam names ((x, meaning.Value) ∷ []);
          hold = λ rest r. subst (CellsHold IsDimmed) (sym (front-For x low high body rest)) (inner.hold done tt, r);
        });
    guard = λ tests body h b names left of j. (
        let is = sym (judged_if part.Executor tests body names) ∙ j in
        let inner = all-dims body h (sym (executes-If tests body) ∙ b) names left of (then_outcome (tests_fault names tests) (judged_all part.Executor body names) left is) in
        record {
          stays = inner.stays;
          hold = λ rest r. subst (CellsHold IsDimmed) (sym (front-If tests body rest)) (inner.hold done tt, r);
        });
    assignment = λ c how value b names left of j. (
        let is = sym (judged_assign part.Executor c how value names) ∙ j in
        let none = no_fault (assign_fault names part.Executor c value) (Ok names) left is in
        let i : Inside = inside InScope names c.at in
        let behind = none_second (target_fault part.Executor c.array i.count (find names c.array)) (option_or i.fault (expr_fault InScope names value)) none in
        record {
          stays = same_left names left (then_outcome (assign_fault names part.Executor c value) (Ok names) left is);
          hold = λ rest r. subst (CellsHold IsDimmed) (sym (front-Assign c how value rest)) (
            (target names of c (none_first (target_fault part.Executor c.array i.count (find names c.array)) (option_or i.fault (expr_fault InScope names value)) none), right names of value (none_second i.fault (expr_fault InScope names value) behind)),
            r,
          );
        });
    index_assignment = λ c value b names left of j. absurd (let no = sym (executes-Put c value) ∙ b in cc);
    declaration = λ x k inner b names left of j. absurd (let no = sym (executes-Declare x k inner) ∙ b in cc);
    growth = λ x by b names left of j. absurd (let no = sym (executes-Grow x by) ∙ b in cc);
  })

  pub executor_dims : (left : Names) → list_all is_executor p.executor ≡ true → judged_all part.Executor p.executor (signature p) ≡ Ok left → CellsHold IsDimmed (executor_of p.executor)
  executor_dims left b j = (all-dims p.executor (statements p.executor) (mapped p.executor b) (signature p) left of_signature j).hold done tt
    where
      mapped : (ts : List Stmt) → list_all is_executor ts ≡ true → list_all (λ b. b) (map is_executor ts) ≡ true
      mapped [] h = refl
      mapped (t ∷ ts) h = let f = first_is (is_executor t) (list_all is_executor ts) h in rw (f.0, mapped ts f.1) refl
