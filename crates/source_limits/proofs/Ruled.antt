-- By the rules, where no inspector runs before it, the cells of an executor and the matrices have the extents that they need.
use Rattle.std.proofs.Common.{◌≡◌, ℕ, suc, ◌+◌, ◌-◌, ◌≤◌, arith, Bool, true, false, ◌&&◌, List, [], ◌∷◌, ◌++◌, map, length, take, Option, Some, None, Result, Ok, Err, refl, sym, ap, ◌∙◌, subst}
use Rattle.std.specs.Prelude.{◌==◌, is_some, cond, if◌then◌else◌, bytes_eq, IsTrue}
use Rattle.std.specs.List.{list_all, AllByRecursion}
use Rattle.std.specs.Map.{lookup}
use Rattle.std.specs.Option.{option_or}
use Rattle.std.proofs.Math.Seq.{take-append_seam}
use Rattle.std.proofs.lemmas.Bool.{eqb-true, eq-eqb}
use Rattle.std.proofs.lemmas.List.Folds.{list_all-append}
use Rattle.std.proofs.lemmas.Slice.Eq.{bytes_eq-Decides}
use Rattle.c_tree.specs.declared.data.Expr.{Expr, Expr-F, ind-Expr, map-Expr, roll-Expr}
use Rattle.c_tree.specs.declared.data.Expr.TheOpen as open_expr
use Rattle.c_tree.specs.declared.data.Expr.TheVariants as expr
use Rattle.c_tree.specs.declared.index.Cell.{Cell}
use Rattle.c_tree.specs.declared.index.Index.{Index}
use Rattle.c_tree.specs.declared.index.Index.TheOpen as layer
use Rattle.c_tree.specs.declared.index.Subscripts.{Subscripts, Subscripts-F, map-Subscripts, fold_out-Subscripts, out-Subscripts}
use Rattle.c_tree.specs.declared.program.Array.{Array}
use Rattle.c_tree.specs.declared.program.Kind.{Kind}
use Rattle.c_tree.specs.declared.program.Kind.TheVariants as kind
use Rattle.c_tree.specs.declared.program.Matrix.{Matrix}
use Rattle.c_tree.specs.declared.program.Program.{Program}
use Rattle.c_tree.specs.declared.statement.How.{How}
use Rattle.c_tree.specs.declared.statement.Test.{Test}
use Rattle.c_tree.specs.declared.statement.Stmt.{Stmt, Stmt-F, ind-Stmt, map-Stmt, roll-Stmt}
use Rattle.c_tree.specs.declared.statement.Stmt.TheOpen as open_stmt
use Rattle.c_tree.specs.declared.statement.Stmt.TheVariants.{For, If, Assign, Put, Declare, Grow, rolls-For, rolls-If, rolls-Assign, rolls-Put, rolls-Declare, rolls-Grow}
use Rattle.c_judge.specs.declared.faults.NameWhy.TheVariants as why
use Rattle.c_judge.specs.declared.names.Part.TheVariants as part
use Rattle.c_judge.specs.declared.scope.Meaning.{Meaning}
use Rattle.c_judge.specs.declared.scope.Meaning.TheVariants as meaning
use Rattle.c_judge.specs.declared.uses.Rule.TheVariants.{InScope}
use Rattle.c_judge.specs.Names.{Name, Names, Fault, find, enter, because}
use Rattle.c_judge.specs.Outcomes.{Outcome, Judged, unless, and_then, one_by_one}
use Rattle.c_judge.specs.Rules.{all_names, fixed_in, fault_of, KeepsRules}
use Rattle.c_judge.specs.Limits.{capped, count_in, count_of, limit_fault}
use Rattle.c_judge.specs.declared.limits.Counted.TheVariants.{All}
use Rattle.c_judge.proofs.SizesAt.{count_for, count_if, count_assign, count_put, count_declare, count_grow}
use Rattle.c_judge.specs.Signature.{meaning_of, enter_first, with_params, with_arrays, signature, extents_of, has_rows, has_entries, is_taken, matrix_refused, declared_fault, kinds_fault, sides_fault, matrix_fault, matrices_from, params_from, arrays_from, signature_fault}
use Rattle.c_judge.specs.Statements.{judged, judged_all, loop_fault, loop_outcome, tests_fault, target_fault, assign_fault, leave}
use Rattle.c_judge.specs.Uses.{Inside, dims_fault, index_fault, inside, index_cell_fault, index_layer, subscripts_layer, cell_layer, array_fault, cell_fault, expr_fault}
use Rattle.c_judge.proofs.UsesAt.{of_at, of_plus, of_minus, of_times}
use Rattle.c_judge.proofs.StatementsAt.{judged_for, judged_if, judged_assign}
use Rattle.source_limits.specs.Cells.{cells_of}
use Rattle.source_limits.specs.Dimensions.{count_layer, subscript_count, is_declared, are_declared, has_declared, have_declared, has_one_extent, is_declared_matrix, HasMatrices}
use Rattle.source_limits.specs.Executor.{is_executed, are_executed}
use Rattle.source_limits.proofs.Lists.{both}
use Rattle.source_limits.proofs.Celled.{cells_at}
use Rattle.source_limits.proofs.Declaring.{declared-For, declared-If, declared-Assign}
use Rattle.source_limits.proofs.Executing.{inside-For, inside-If, never-Put, never-Declare, never-Grow}

-- ---- faults and outcomes
pub none_first : {T : Type 0} (a b : Option T) → option_or a b ≡ None → a ≡ None
none_first None b h = refl
none_first (Some x) b h = h

pub none_second : {T : Type 0} (a b : Option T) → option_or a b ≡ None → b ≡ None
none_second None b h = h
none_second (Some x) b h = cc

no_fault : (f : Fault) (o : Outcome) (n : Names) → unless f o ≡ Ok n → f ≡ None
no_fault None o n h = refl
no_fault (Some f) o n h = cc

then_outcome : (f : Fault) (o : Outcome) (n : Names) → unless f o ≡ Ok n → o ≡ Ok n
then_outcome None o n h = h
then_outcome (Some f) o n h = cc

went_on : (o : Outcome) (j : Judged) (n : Names) → and_then o j ≡ Ok n → (m : Names) × ((o ≡ Ok m) × (j m ≡ Ok n))
went_on (Ok m) j n h = (m, (refl, h))
went_on (Err f) j n h = cc

was_left : (k : ℕ) (o : Outcome) (n : Names) → leave k o ≡ Ok n → (m : Names) × ((o ≡ Ok m) × (take k m ≡ n))
was_left k (Ok m) n h = (m, (refl, cc))
was_left k (Err f) n h = cc

both_are : (x y : Bool) → x ≡ true → y ≡ true → (x && y) ≡ true
both_are x y h k = rw (h, k) refl

-- ---- no inspector
counts_one : (t : Stmt) → 1 ≤ count_in All t
counts_one = ind-Stmt (λ t. 1 ≤ count_in All t) (λ x y e. subst (λ d. 1 ≤ count_in All (roll-Stmt d)) e (one (λ e. e.0) y))
  where
    one : {A : Type 0} (f : A → Stmt) (y : Stmt-F A) → 1 ≤ count_in All (roll-Stmt (map-Stmt A Stmt f y))
    one f (open_stmt.For x low high body) = subst (λ t. 1 ≤ count_in All t) (sym (rolls-For x low high (map f body))) (let e = count_for All x low high (map f body) in omega (arith, e))
    one f (open_stmt.If tests body) = subst (λ t. 1 ≤ count_in All t) (sym (rolls-If tests (map f body))) (let e = count_if All tests (map f body) in omega (arith, e))
    one f (open_stmt.Assign target how value) = subst (λ t. 1 ≤ count_in All t) (sym (rolls-Assign target how value)) (let e = count_assign All target how value in omega (arith, e))
    one f (open_stmt.Put target value) = subst (λ t. 1 ≤ count_in All t) (sym (rolls-Put target value)) (let e = count_put All target value in omega (arith, e))
    one f (open_stmt.Declare x k inner) = subst (λ t. 1 ≤ count_in All t) (sym (rolls-Declare x k inner)) (let e = count_declare All x k inner in omega (arith, e))
    one f (open_stmt.Grow x by) = subst (λ t. 1 ≤ count_in All t) (sym (rolls-Grow x by)) (let e = count_grow All x by in omega (arith, e))

pub no_statement : (ts : List Stmt) (n : ℕ) → n ≡ capped (count_of All ts) → n ≡ 0 → ts ≡ []
no_statement [] n h e = refl
no_statement (t ∷ ts) n h e = absurd (let o = counts_one t in omega (arith, h, e, o))

-- ---- names that come into scope
abbrev last : Name → Name → Meaning → Option Meaning
last y x m = if bytes_eq y x then Some m else None

same_bool : (p q : Bool) → (p ≡ true → q ≡ true) → (q ≡ true → p ≡ true) → p ≡ q
same_bool true q f g = sym (f refl)
same_bool false true f g = absurd (let e = g refl in cc)
same_bool false false f g = refl

same_either : (x y : Name) → bytes_eq x y ≡ bytes_eq y x
same_either x y = same_bool (bytes_eq x y) (bytes_eq y x)
    (λ h. (bytes_eq-Decides y x).1 (sym ((bytes_eq-Decides x y).0 h)))
    (λ h. (bytes_eq-Decides x y).1 (sym ((bytes_eq-Decides y x).0 h)))

lookup_last : (names : Names) (y x : Name) (m : Meaning) → lookup (bytes_eq x) (names ++ (y, m) ∷ []) ≡ option_or (lookup (bytes_eq x) names) (last y x m)
lookup_last [] y x m = ap (λ (b : Bool). if b then Some m else None) (same_either x y)
lookup_last (e ∷ names) y x m = by (bytes_eq x e.0) (lookup_last names y x m)
  where
    by : (b : Bool) → lookup (bytes_eq x) (names ++ (y, m) ∷ []) ≡ option_or (lookup (bytes_eq x) names) (last y x m)
        → cond b (Some e.1) (lookup (bytes_eq x) (names ++ (y, m) ∷ [])) ≡ option_or (cond b (Some e.1) (lookup (bytes_eq x) names)) (last y x m)
    by true h = refl
    by false h = h

find_enter : (names : Names) (y x : Name) (m : Meaning) → find (enter names y m) x ≡ option_or (find names x) (last y x m)
unfolding find
find_enter names y x m = lookup_last names y x m

find_enter_first : (names : Names) (y x : Name) (m : Meaning) → find (enter_first names y m) x ≡ option_or (find names x) (last y x m)
find_enter_first names y x m = by (find names y) refl
  where
    kept : (v : Meaning) (o : Option Meaning) (b : Bool) → find names y ≡ Some v → find names x ≡ o → bytes_eq y x ≡ b → o ≡ option_or o (if b then Some m else None)
    kept v (Some w) b there e s = refl
    kept v None false there e s = refl
    kept v None true there e s = (let same = (bytes_eq-Decides y x).0 s in let clash : Some v ≡ None = sym there ∙ ap (find names) same ∙ e in cc)

    by : (o : Option Meaning) → find names y ≡ o → find (if is_some o then names else enter names y m) x ≡ option_or (find names x) (last y x m)
    by None e = find_enter names y x m
    by (Some v) e = kept v (find names x) (bytes_eq y x) e refl refl

-- no array is in scope
abbrev AreValues : Names → Type 0
AreValues names = (x : Name) (k : Kind) (n : ℕ) (g : Bool) → find names x ≡ Some (meaning.Array k n g) → ⊥

values-from : (names : Names) (xs : List Name) → AreValues names → AreValues (with_params names xs)
values-from names [] h = h
values-from names (y ∷ ys) h = values-from (enter_first names y meaning.Value) ys (λ x k n g e. by x k n g (find names x) refl (bytes_eq y x) (sym (find_enter_first names y x meaning.Value) ∙ e))
  where
    by : (x : Name) (k : Kind) (n : ℕ) (g : Bool) (o : Option Meaning) → find names x ≡ o → (b : Bool) → option_or o (if b then Some meaning.Value else None) ≡ Some (meaning.Array k n g) → ⊥
    by x k n g None e true f = cc
    by x k n g None e false f = cc
    by x k n g (Some m) e b f = h x k n g (e ∙ f)

no_names : AreValues []
unfolding find
no_names x k n g e = cc

-- what the first array of that name means
abbrev first_named : List Array → Name → Option Meaning
first_named [] x = None
first_named (b ∷ bs) x = if bytes_eq b.name x then Some (meaning_of b) else first_named bs x

joined : (f : Option Meaning) (m : Meaning) (b : Bool) (o : Option Meaning) → option_or (option_or f (if b then Some m else None)) o ≡ option_or f (if b then Some m else o)
joined (Some w) m b o = refl
joined None m true o = refl
joined None m false o = refl

find_arrays : (names : Names) (bs : List Array) (x : Name) → find (with_arrays names bs) x ≡ option_or (find names x) (first_named bs x)
find_arrays names [] x = by (find names x)
  where
    by : (o : Option Meaning) → o ≡ option_or o None
    by None = refl
    by (Some m) = refl
find_arrays names (b ∷ bs) x =
    find_arrays (enter_first names b.name (meaning_of b)) bs x
    ∙ ap (λ (o : Option Meaning). option_or o (first_named bs x)) (find_enter_first names b.name x (meaning_of b))
    ∙ joined (find names x) (meaning_of b) (bytes_eq b.name x) (first_named bs x)

named_extents : (bs : List Array) (x : Name) (k : Kind) (n : ℕ) (g : Bool) → first_named bs x ≡ Some (meaning.Array k n g) → length (extents_of bs x) ≡ n
named_extents [] x k n g h = absurd cc
named_extents (b ∷ bs) x k n g h = by (bytes_eq b.name x) h (named_extents bs x k n g)
  where
    by : (t : Bool) → (if t then Some (meaning_of b) else first_named bs x) ≡ Some (meaning.Array k n g) → (first_named bs x ≡ Some (meaning.Array k n g) → length (extents_of bs x) ≡ n) → length (if t then b.extents else extents_of bs x) ≡ n
    by true h more = cc
    by false h more = more h

-- ---- subscripts
count-at : (names : Names) (s : Subscripts) → (inside InScope names s).count ≡ subscript_count s
unfolding index_fault inside index_cell_fault
count-at names s = by (out-Subscripts s) refl
  where
    inside-at : (d : Subscripts-F Index Subscripts Cell) → out-Subscripts s ≡ d
        → inside InScope names s ≡ subscripts_layer InScope names (map-Subscripts Index Subscripts Cell Fault Inside Fault (index_fault InScope names) (inside InScope names) (index_cell_fault InScope names) d)
    inside-at d h =
        fold_out-Subscripts Fault Inside Fault (index_layer InScope names) (subscripts_layer InScope names) (cell_layer InScope names) s
        ∙ ap (λ (d : Subscripts-F Index Subscripts Cell). subscripts_layer InScope names (map-Subscripts Index Subscripts Cell Fault Inside Fault (index_fault InScope names) (inside InScope names) (index_cell_fault InScope names) d)) h

    by : (d : Subscripts-F Index Subscripts Cell) → out-Subscripts s ≡ d → (inside InScope names s).count ≡ subscript_count s
    by (layer.One a) e = ap (λ (i : Inside). i.count) (inside-at _ e) ∙ sym (ap count_layer e)
    by (layer.Two a b) e = ap (λ (i : Inside). i.count) (inside-at _ e) ∙ sym (ap count_layer e)
    by (layer.Three a b c) e = ap (λ (i : Inside). i.count) (inside-at _ e) ∙ sym (ap count_layer e)

same_count : (x : Name) (e n : ℕ) → dims_fault x e n ≡ None → e ≡ n
same_count x e n h = by (e == n) refl h
  where
    by : (b : Bool) → (e == n) ≡ b → (if b then None else because x why.Dims) ≡ None → e ≡ n
    by true s h = eqb-true e n s
    by false s h = cc

module _ (p : Program) where
  -- the arrays in scope are those of the signature
  abbrev AreOf : Names → Type 0
  AreOf names = (x : Name) (k : Kind) (n : ℕ) (g : Bool) → find names x ≡ Some (meaning.Array k n g) → length (extents_of p.arrays x) ≡ n

  of_signature : AreOf (signature p)
  unfolding signature
  of_signature x k n g h = by (find (with_params [] p.params) x) refl (sym (find_arrays (with_params [] p.params) p.arrays x) ∙ h)
    where
      by : (o : Option Meaning) → find (with_params [] p.params) x ≡ o → option_or o (first_named p.arrays x) ≡ Some (meaning.Array k n g) → length (extents_of p.arrays x) ≡ n
      by None e f = named_extents p.arrays x k n g f
      by (Some m) e f = absurd (values-from [] p.params no_names x k n g (e ∙ f))

  of_inside : (names : Names) (x : Name) → AreOf names → AreOf (enter names x meaning.Value)
  of_inside names x all y k n g h = by (find names y) refl (bytes_eq x y) (sym (find_enter names x y meaning.Value) ∙ h)
    where
      by : (m : Option Meaning) → find names y ≡ m → (b : Bool) → option_or m (if b then Some meaning.Value else None) ≡ Some (meaning.Array k n g) → length (extents_of p.arrays y) ≡ n
      by None e true h = absurd cc
      by None e false h = absurd cc
      by (Some m) e b h = all y k n g (e ∙ h)

  abbrev AllDeclared : List Cell → Type 0
  AllDeclared cs = list_all (is_declared p.arrays) cs ≡ true

  module _ (names : Names) (of : AreOf names) where
    declared : (c : Cell) (k : Kind) (n : ℕ) (g : Bool) → find names c.array ≡ Some (meaning.Array k n g) → n ≡ (inside InScope names c.at).count → is_declared p.arrays c ≡ true
    declared c k n g h e = eq-eqb (length (extents_of p.arrays c.array)) (subscript_count c.at) (of c.array k n g h ∙ e ∙ count-at names c.at)

    target : (c : Cell) → target_fault part.Executor c.array (inside InScope names c.at).count (find names c.array) ≡ None → is_declared p.arrays c ≡ true
    target c h = by (find names c.array) refl h
      where
        by : (m : Option Meaning) → find names c.array ≡ m → target_fault part.Executor c.array (inside InScope names c.at).count m ≡ None → is_declared p.arrays c ≡ true
        by None e h = absurd cc
        by (Some meaning.Value) e h = absurd cc
        by (Some (meaning.Array kind.Number n g)) e h = declared c kind.Number n g e (same_count c.array n (inside InScope names c.at).count h)
        by (Some (meaning.Array kind.Position n g)) e h = declared c kind.Position n g e (same_count c.array n (inside InScope names c.at).count h)

    loaded : (c : Cell) → cell_fault InScope names kind.Number c.array (inside InScope names c.at).count ≡ None → is_declared p.arrays c ≡ true
    loaded c h = by (find names c.array) refl h
      where
        by : (m : Option Meaning) → find names c.array ≡ m → array_fault kind.Number c.array (inside InScope names c.at).count m ≡ None → is_declared p.arrays c ≡ true
        by None e h = absurd cc
        by (Some meaning.Value) e h = absurd cc
        by (Some (meaning.Array kind.Number n g)) e h = declared c kind.Number n g e (same_count c.array n (inside InScope names c.at).count h)
        by (Some (meaning.Array kind.Position n g)) e h = absurd cc

    abbrev AreLoaded : Expr → Type 0
    AreLoaded e = expr_fault InScope names e ≡ None → AllDeclared (cells_of e)

    two : (e a b : Expr) → cells_of e ≡ cells_of a ++ cells_of b → expr_fault InScope names e ≡ option_or (expr_fault InScope names a) (expr_fault InScope names b) → AreLoaded a → AreLoaded b → AreLoaded e
    two e a b c f l r h =
        let none = sym f ∙ h in
        subst AllDeclared (sym c) (list_all-append (is_declared p.arrays) (cells_of a) (cells_of b)
        ∙ both_are (list_all (is_declared p.arrays) (cells_of a)) (list_all (is_declared p.arrays) (cells_of b))
        (l (none_first (expr_fault InScope names a) (expr_fault InScope names b) none)) (r (none_second (expr_fault InScope names a) (expr_fault InScope names b) none)))

    right_layer : {A : Type 0} (f : A → Expr) (g : (a : A) → AreLoaded (f a)) (y : Expr-F A) → AreLoaded (roll-Expr (map-Expr A Expr f y))
    right_layer f g (open_expr.Const n) = subst AreLoaded (sym (expr.rolls-Const n)) (λ h. subst AllDeclared (sym (cells_at (expr.Const n) _ (expr.outs-Const n))) refl)
    right_layer f g (open_expr.At c) = subst AreLoaded (sym (expr.rolls-At c)) (λ h.
        subst AllDeclared (sym (cells_at (expr.At c) _ (expr.outs-At c)))
        (both_are (is_declared p.arrays c) true (loaded c (none_first (cell_fault InScope names kind.Number c.array (inside InScope names c.at).count) (inside InScope names c.at).fault (sym (of_at InScope names c) ∙ h))) refl))
    right_layer f g (open_expr.Plus a b) = subst AreLoaded (sym (expr.rolls-Plus (f a) (f b))) (two (expr.Plus (f a) (f b)) (f a) (f b) (cells_at (expr.Plus (f a) (f b)) _ (expr.outs-Plus (f a) (f b))) (of_plus InScope names (f a) (f b)) (g a) (g b))
    right_layer f g (open_expr.Minus a b) = subst AreLoaded (sym (expr.rolls-Minus (f a) (f b))) (two (expr.Minus (f a) (f b)) (f a) (f b) (cells_at (expr.Minus (f a) (f b)) _ (expr.outs-Minus (f a) (f b))) (of_minus InScope names (f a) (f b)) (g a) (g b))
    right_layer f g (open_expr.Times a b) = subst AreLoaded (sym (expr.rolls-Times (f a) (f b))) (two (expr.Times (f a) (f b)) (f a) (f b) (cells_at (expr.Times (f a) (f b)) _ (expr.outs-Times (f a) (f b))) (of_times InScope names (f a) (f b)) (g a) (g b))

    right : (e : Expr) → AreLoaded e
    right = ind-Expr AreLoaded (λ x y e. subst (λ d. AreLoaded (roll-Expr d)) e (right_layer (λ e. e.0) (λ e. e.1) y))

  -- ---- statements
  -- a statement of an executor brings no name, and its cells are declared
  abbrev IsRuled : Stmt → Type 0
  IsRuled t = (l : ℕ) (names left : Names) → is_executed t l ≡ true → AreOf names → judged part.Executor t names ≡ Ok left → (left ≡ names) × (has_declared p.arrays t ≡ true)

  same_left : (names left : Names) → (let o : Outcome = Ok names in o) ≡ Ok left → left ≡ names
  same_left names left h = cc

  all-ruled : (ts : List Stmt) → AllByRecursion IsRuled ts → (l : ℕ) (names left : Names) → are_executed l ts ≡ true → AreOf names → judged_all part.Executor ts names ≡ Ok left → (left ≡ names) × (have_declared p.arrays ts ≡ true)
  all-ruled [] h l names left x of j = (same_left names left j, refl)
  all-ruled (t ∷ ts) h l names left x of j =
      let b = both (is_executed t l) (are_executed l ts) x in
      let o = went_on (judged part.Executor t names) (judged_all part.Executor ts) left j in
      let first = h.0 l names o.0 b.0 of o.1.0 in
      let rest = all-ruled ts h.1 l o.0 left b.1 (subst AreOf (sym first.0) of) o.1.1 in
      (rest.0 ∙ first.0, both_are (has_declared p.arrays t) (have_declared p.arrays ts) first.1 rest.1)

  loop : (x : Name) (low high : Index) (body : List Stmt) → AllByRecursion IsRuled body → IsRuled (For x low high body)
  loop x low high body h l names left e of j =
      let is = sym (judged_for part.Executor x low high body names) ∙ j in
      let o = was_left (length names) (one_by_one (map (judged part.Executor) body) (enter names x meaning.Value)) left (then_outcome (loop_fault names x low high) (loop_outcome part.Executor x body names) left is) in
      let inner = all-ruled body h (l - 1) (enter names x meaning.Value) o.0 (inside-For (For x low high body) x low high body l refl e).0 (of_inside names x of) o.1.0 in
      (sym o.1.1 ∙ ap (λ (m : Names). take (length names) m) inner.0 ∙ take-append_seam names ((x, meaning.Value) ∷ []), declared-For p.arrays x low high body ∙ inner.1)

  guard : (tests : List Test) (body : List Stmt) → AllByRecursion IsRuled body → IsRuled (If tests body)
  guard tests body h l names left e of j =
      let is = sym (judged_if part.Executor tests body names) ∙ j in
      let inner = all-ruled body h l names left (inside-If (If tests body) tests body l refl e).0 of (then_outcome (tests_fault names tests) (judged_all part.Executor body names) left is) in
      (inner.0, declared-If p.arrays tests body ∙ inner.1)

  assignment : (target : Cell) (how : How) (value : Expr) → IsRuled (Assign target how value)
  assignment c how value l names left e of j =
      let is = sym (judged_assign part.Executor c how value names) ∙ j in
      let i : Inside = inside InScope names c.at in
      let none = no_fault (assign_fault names part.Executor c value) (Ok names) left is in
      let behind = none_second (target_fault part.Executor c.array i.count (find names c.array)) (option_or i.fault (expr_fault InScope names value)) none in
      let own = target names of c (none_first (target_fault part.Executor c.array i.count (find names c.array)) (option_or i.fault (expr_fault InScope names value)) none) in
      let more = right names of value (none_second i.fault (expr_fault InScope names value) behind) in (
        same_left names left (then_outcome (assign_fault names part.Executor c value) (Ok names) left is),
        declared-Assign p.arrays c how value ∙ both_are (is_declared p.arrays c) (list_all (is_declared p.arrays) (cells_of value)) own more,
      )

  each_of : {A : Type 0} (f : A → Stmt) (g : (a : A) → IsRuled (f a)) (xs : List A) → AllByRecursion IsRuled (map f xs)
  each_of f g [] = tt
  each_of f g (x ∷ xs) = (g x, each_of f g xs)

  layer_of : {A : Type 0} (f : A → Stmt) (g : (a : A) → IsRuled (f a)) (y : Stmt-F A) → IsRuled (roll-Stmt (map-Stmt A Stmt f y))
  layer_of f g (open_stmt.For x low high body) = subst IsRuled (sym (rolls-For x low high _)) (loop x low high _ (each_of f g body))
  layer_of f g (open_stmt.If tests body) = subst IsRuled (sym (rolls-If tests _)) (guard tests _ (each_of f g body))
  layer_of f g (open_stmt.Assign target how value) = subst IsRuled (sym (rolls-Assign target how value)) (assignment target how value)
  layer_of f g (open_stmt.Put target value) = subst IsRuled (sym (rolls-Put target value)) (λ l names left e of j. never-Put (Put target value) target value l refl e)
  layer_of f g (open_stmt.Declare x k inner) = subst IsRuled (sym (rolls-Declare x k inner)) (λ l names left e of j. never-Declare (Declare x k inner) x k inner l refl e)
  layer_of f g (open_stmt.Grow x by) = subst IsRuled (sym (rolls-Grow x by)) (λ l names left e of j. never-Grow (Grow x by) x by l refl e)

  ruled : (t : Stmt) → IsRuled t
  ruled = ind-Stmt IsRuled (λ x y e. subst (λ d. IsRuled (roll-Stmt d)) e (layer_of (λ e. e.0) (λ e. e.1) y))

  each_ruled : (ts : List Stmt) → AllByRecursion IsRuled ts
  each_ruled [] = tt
  each_ruled (t ∷ ts) = (ruled t, each_ruled ts)

  -- ---- matrices
  rows_one : (x : Name) (es : List Index) → has_rows x es ≡ true → length es ≡ 1
  rows_one x [] h = absurd cc
  rows_one x (e ∷ []) h = refl
  rows_one x (e ∷ f ∷ es) h = absurd cc

  entries_one : (x : Name) (es : List Index) → has_entries x es ≡ true → length es ≡ 1
  entries_one x [] h = absurd cc
  entries_one x (e ∷ []) h = refl
  entries_one x (e ∷ f ∷ es) h = absurd cc

  not_refused : (declared taken : Bool) (x : Name) → matrix_refused declared taken x ≡ None → declared ≡ true
  not_refused true taken x h = refl
  not_refused false taken x h = absurd cc

  one_matrix : (ms : List Matrix) (i : ℕ) (m : Matrix) → declared_fault p.arrays ms i m ≡ None → is_declared_matrix p.arrays m ≡ true
  one_matrix ms i m h =
      let a = matrix_refused (has_rows m.rows (extents_of p.arrays m.index)) (is_taken ms i m.index) m.index in
      let b = matrix_refused (has_entries m.count (extents_of p.arrays m.col)) (is_taken ms i m.col) m.col in
      let c = matrix_refused (has_entries m.count (extents_of p.arrays m.value)) (is_taken ms i m.value) m.value in
      let r = not_refused (has_rows m.rows (extents_of p.arrays m.index)) (is_taken ms i m.index) m.index (none_first a (option_or b c) h) in
      let e = not_refused (has_entries m.count (extents_of p.arrays m.col)) (is_taken ms i m.col) m.col (none_first b c (none_second a (option_or b c) h)) in
      both_are (has_one_extent p.arrays m.index) (has_one_extent p.arrays m.col)
      (eq-eqb (length (extents_of p.arrays m.index)) 1 (rows_one m.rows (extents_of p.arrays m.index) r))
      (eq-eqb (length (extents_of p.arrays m.col)) 1 (entries_one m.count (extents_of p.arrays m.col) e))

  each_matrix : (names : Names) (ms : List Matrix) (i : ℕ) (more : List Matrix) → matrices_from names p.arrays ms i more ≡ None → list_all (is_declared_matrix p.arrays) more ≡ true
  each_matrix names ms i [] h = refl
  each_matrix names ms i (m ∷ more) h =
      let own = none_first (matrix_fault names p.arrays ms i m) (matrices_from names p.arrays ms (i + 1) more) h in
      let rest = none_second (matrix_fault names p.arrays ms i m) (matrices_from names p.arrays ms (i + 1) more) h in
      let behind = none_second (kinds_fault names m) (option_or (sides_fault names m) (declared_fault p.arrays ms i m)) own in
      both_are (is_declared_matrix p.arrays m) (list_all (is_declared_matrix p.arrays) more)
      (one_matrix ms i m (none_second (sides_fault names m) (declared_fault p.arrays ms i m) behind)) (each_matrix names ms (i + 1) more rest)

  -- ---- the rules
  pub rules_declare_matrices : KeepsRules p → HasMatrices p
  unfolding fault_of signature_fault
  rules_declare_matrices h =
      let behind = none_second (limit_fault p) (option_or (signature_fault (signature p) p) (fixed_in p (all_names p))) h in
      let sign = none_first (signature_fault (signature p) p) (fixed_in p (all_names p)) behind in
      record { each = each_matrix (signature p) p.matrices 0 p.matrices (none_first (matrices_from (signature p) p.arrays p.matrices 0 p.matrices) (option_or (params_from [] p.params) (arrays_from (signature p) p.params p.matrices [] p.arrays)) sign) }

  named : fixed_in p (all_names p) ≡ None → p.inspector ≡ [] → (left : Names) × (judged_all part.Executor p.executor (signature p) ≡ Ok left)
  unfolding all_names
  named h e = by (judged_all part.Executor p.executor (signature p)) refl
    where
      is : all_names p ≡ judged_all part.Executor p.executor (signature p)
      is = ap (λ (ts : List Stmt). and_then (judged_all part.Inspector ts (signature p)) (judged_all part.Executor p.executor)) e

      by : (o : Outcome) → judged_all part.Executor p.executor (signature p) ≡ o → (left : Names) × (judged_all part.Executor p.executor (signature p) ≡ Ok left)
      by (Ok left) k = (left, k)
      by (Err f) k = absurd (let h' = sym (ap (fixed_in p) (is ∙ k)) ∙ h in cc)

  pub rules_declare_cells : KeepsRules p → p.inspector ≡ [] → (l : ℕ) → are_executed l p.executor ≡ true → have_declared p.arrays p.executor ≡ true
  unfolding fault_of
  rules_declare_cells h e l x =
      let behind = none_second (limit_fault p) (option_or (signature_fault (signature p) p) (fixed_in p (all_names p))) h in
      let n = named (none_second (signature_fault (signature p) p) (fixed_in p (all_names p)) behind) e in
      (all-ruled p.executor (each_ruled p.executor) l (signature p) n.0 x of_signature n.1).1
