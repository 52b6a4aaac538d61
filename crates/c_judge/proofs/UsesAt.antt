-- The first fault at each kind of expression.
use Rattle.std.specs.Prelude.{◌≡◌, ℕ, ℤ, refl, Some, None}
use Rattle.std.specs.Option.{option_or}
use Rattle.std.proofs.Common.{ap, ◌∙◌, sym}
use Rattle.c_tree.specs.declared.program.Kind.TheVariants as kind
use Rattle.c_tree.specs.declared.index.Index.{Index, Index-F, fold_out-Index, map-Index, out-Index}
use Rattle.c_tree.specs.declared.index.Index.TheVariants.{Const, Var, At, Neg, Plus, Minus, Times, Min, Max, Floor, Ceil, outs-Const, outs-Var, outs-At, outs-Neg, outs-Plus, outs-Minus, outs-Times, outs-Min, outs-Max, outs-Floor, outs-Ceil}
use Rattle.c_tree.specs.declared.index.Subscripts.{Subscripts, Subscripts-F, fold_out-Subscripts, map-Subscripts, out-Subscripts}
use Rattle.c_tree.specs.declared.index.Subscripts.TheVariants.{One, Two, Three, outs-One, outs-Two, outs-Three}
use Rattle.c_tree.specs.declared.index.Cell.{Cell, fold_out-Cell}
use Rattle.c_tree.specs.declared.data.Expr.{Expr, Expr-F, fold_out-Expr, map-Expr, out-Expr}
use Rattle.c_tree.specs.declared.data.Expr.TheVariants as expr
use Rattle.c_judge.specs.declared.uses.Rule.{Rule}
use Rattle.c_judge.specs.Names.{Name, Names, Fault}
use Rattle.c_judge.specs.Uses.{Inside, value_fault, cell_fault, index_layer, subscripts_layer, cell_layer, expr_layer, index_fault, inside, index_cell_fault, data_cell_fault, expr_fault}

module _ (r : Rule) (names : Names) where
  index_at : (e : Index) (d : Index-F Index Subscripts Cell) → out-Index e ≡ d
      → index_fault r names e ≡ index_layer r names (map-Index Index Subscripts Cell Fault Inside Fault (index_fault r names) (inside r names) (index_cell_fault r names) d)
  unfolding index_fault inside index_cell_fault
  index_at e d h =
      fold_out-Index Fault Inside Fault (index_layer r names) (subscripts_layer r names) (cell_layer r names) e
      ∙ ap (λ d. index_layer r names (map-Index Index Subscripts Cell Fault Inside Fault (index_fault r names) (inside r names) (index_cell_fault r names) d)) h

  inside_at : (e : Subscripts) (d : Subscripts-F Index Subscripts Cell) → out-Subscripts e ≡ d
      → inside r names e ≡ subscripts_layer r names (map-Subscripts Index Subscripts Cell Fault Inside Fault (index_fault r names) (inside r names) (index_cell_fault r names) d)
  unfolding index_fault inside index_cell_fault
  inside_at e d h =
      fold_out-Subscripts Fault Inside Fault (index_layer r names) (subscripts_layer r names) (cell_layer r names) e
      ∙ ap (λ d. subscripts_layer r names (map-Subscripts Index Subscripts Cell Fault Inside Fault (index_fault r names) (inside r names) (index_cell_fault r names) d)) h

  pub at_cell : (c : Cell) → index_cell_fault r names c ≡ option_or (cell_fault r names kind.Position c.array (inside r names c.at).count) (inside r names c.at).fault
  unfolding index_fault inside index_cell_fault
  at_cell c = fold_out-Cell Fault Inside Fault (index_layer r names) (subscripts_layer r names) (cell_layer r names) c

  pub at_const : (n : ℤ) → index_fault r names (Const n) ≡ None
  at_const n = index_at (Const n) _ (outs-Const n)

  pub at_var : (x : Name) → index_fault r names (Var x) ≡ value_fault r names x
  at_var x = index_at (Var x) _ (outs-Var x)

  pub at_at : (c : Cell) → index_fault r names (At c) ≡ index_cell_fault r names c
  at_at c = index_at (At c) _ (outs-At c)

  pub at_neg : (a : Index) → index_fault r names (Neg a) ≡ index_fault r names a
  at_neg a = index_at (Neg a) _ (outs-Neg a)

  pub at_plus : (a b : Index) → index_fault r names (Plus a b) ≡ option_or (index_fault r names a) (index_fault r names b)
  at_plus a b = index_at (Plus a b) _ (outs-Plus a b)

  pub at_minus : (a b : Index) → index_fault r names (Minus a b) ≡ option_or (index_fault r names a) (index_fault r names b)
  at_minus a b = index_at (Minus a b) _ (outs-Minus a b)

  pub at_times : (n : ℤ) (a : Index) → index_fault r names (Times n a) ≡ index_fault r names a
  at_times n a = index_at (Times n a) _ (outs-Times n a)

  pub at_min : (a b : Index) → index_fault r names (Min a b) ≡ option_or (index_fault r names a) (index_fault r names b)
  at_min a b = index_at (Min a b) _ (outs-Min a b)

  pub at_max : (a b : Index) → index_fault r names (Max a b) ≡ option_or (index_fault r names a) (index_fault r names b)
  at_max a b = index_at (Max a b) _ (outs-Max a b)

  pub at_floor : (a : Index) (n : ℤ) → index_fault r names (Floor a n) ≡ index_fault r names a
  at_floor a n = index_at (Floor a n) _ (outs-Floor a n)

  pub at_ceil : (a : Index) (n : ℤ) → index_fault r names (Ceil a n) ≡ index_fault r names a
  at_ceil a n = index_at (Ceil a n) _ (outs-Ceil a n)

  pub at_one : (a : Index) → inside r names (One a) ≡ record { count = 1; fault = index_fault r names a }
  at_one a = inside_at (One a) _ (outs-One a)

  pub at_two : (a b : Index) → inside r names (Two a b) ≡ record { count = 2; fault = option_or (index_fault r names a) (index_fault r names b) }
  at_two a b = inside_at (Two a b) _ (outs-Two a b)

  pub at_three : (a b c : Index) → inside r names (Three a b c) ≡ record { count = 3; fault = option_or (index_fault r names a) (option_or (index_fault r names b) (index_fault r names c)) }
  at_three a b c = inside_at (Three a b c) _ (outs-Three a b c)

  expr_at : (e : Expr) (d : Expr-F Expr) → out-Expr e ≡ d → expr_fault r names e ≡ expr_layer r names (map-Expr Expr Fault (expr_fault r names) d)
  unfolding expr_fault
  expr_at e d h = fold_out-Expr Fault (expr_layer r names) e ∙ ap (λ d. expr_layer r names (map-Expr Expr Fault (expr_fault r names) d)) h

  pub of_const : (n : ℕ) → expr_fault r names (expr.Const n) ≡ None
  of_const n = expr_at (expr.Const n) _ (expr.outs-Const n)

  pub of_at : (c : Cell) → expr_fault r names (expr.At c) ≡ data_cell_fault r names c
  of_at c = expr_at (expr.At c) _ (expr.outs-At c)

  pub of_plus : (a b : Expr) → expr_fault r names (expr.Plus a b) ≡ option_or (expr_fault r names a) (expr_fault r names b)
  of_plus a b = expr_at (expr.Plus a b) _ (expr.outs-Plus a b)

  pub of_minus : (a b : Expr) → expr_fault r names (expr.Minus a b) ≡ option_or (expr_fault r names a) (expr_fault r names b)
  of_minus a b = expr_at (expr.Minus a b) _ (expr.outs-Minus a b)

  pub of_times : (a b : Expr) → expr_fault r names (expr.Times a b) ≡ option_or (expr_fault r names a) (expr_fault r names b)
  of_times a b = expr_at (expr.Times a b) _ (expr.outs-Times a b)

  -- ---- cells

  pub cell_is : (c : Cell) (own more result : Fault) (n : ℕ) → own ≡ cell_fault r names kind.Position c.array n → (inside r names c.at).count ≡ n
      → more ≡ (inside r names c.at).fault → result ≡ option_or own more → result ≡ index_cell_fault r names c
  cell_is c own more result n eo en em er =
      er ∙ ap (λ (o : Fault). option_or o more) (eo ∙ ap (λ (k : ℕ). cell_fault r names kind.Position c.array k) (sym en))
      ∙ ap (λ (o : Fault). option_or (cell_fault r names kind.Position c.array (inside r names c.at).count) o) em ∙ sym (at_cell c)

  pub data_cell_is : (c : Cell) (own more result : Fault) (n : ℕ) → own ≡ cell_fault r names kind.Number c.array n → (inside r names c.at).count ≡ n
      → more ≡ (inside r names c.at).fault → result ≡ option_or own more → result ≡ data_cell_fault r names c
  data_cell_is c own more result n eo en em er =
      er ∙ ap (λ (o : Fault). option_or o more) (eo ∙ ap (λ (k : ℕ). cell_fault r names kind.Number c.array k) (sym en))
      ∙ ap (λ (o : Fault). option_or (cell_fault r names kind.Number c.array (inside r names c.at).count) o) em

  pub one_is : (at : Subscripts) (a : Index) (f : Fault) → at ≡ One a → f ≡ index_fault r names a → f ≡ (inside r names at).fault
  one_is at a f is e = e ∙ ap (λ (i : Inside). i.fault) (sym (ap (inside r names) is ∙ at_one a))

  pub two_is : (at : Subscripts) (a b : Index) (f g result : Fault) → at ≡ Two a b → f ≡ index_fault r names a → g ≡ index_fault r names b
      → result ≡ option_or f g → result ≡ (inside r names at).fault
  two_is at a b f g result is ef eg er =
      er ∙ ap (λ (o : Fault). option_or o g) ef ∙ ap (λ (o : Fault). option_or (index_fault r names a) o) eg
      ∙ ap (λ (i : Inside). i.fault) (sym (ap (inside r names) is ∙ at_two a b))

  pub three_is : (at : Subscripts) (a b c : Index) (f g h more result : Fault) → at ≡ Three a b c → f ≡ index_fault r names a → g ≡ index_fault r names b
      → h ≡ index_fault r names c → more ≡ option_or g h → result ≡ option_or f more → result ≡ (inside r names at).fault
  three_is at a b c f g h more result is ef eg eh em er =
      er ∙ ap (λ (o : Fault). option_or o more) ef
      ∙ ap (λ (o : Fault). option_or (index_fault r names a) o) (em ∙ ap (λ (o : Fault). option_or o h) eg ∙ ap (λ (o : Fault). option_or (index_fault r names b) o) eh)
      ∙ ap (λ (i : Inside). i.fault) (sym (ap (inside r names) is ∙ at_three a b c))

-- ---- steps of a walk from the right

assoc : (a b c : Fault) → option_or a (option_or b c) ≡ option_or (option_or a b) c
assoc None b c = refl
assoc (Some f) b c = refl

-- The fault of what is left to read, with what was found behind it, is that of the whole: so it stays where what is left
-- is a part of what was left.
module _ {A : Type 0} (F : A → Fault) where
  pub begins : (e : A) → option_or (F e) None ≡ F e
  begins e = last (F e)
    where
      last : (o : Fault) → option_or o None ≡ o
      last None = refl
      last (Some f) = refl

  pub one_part : (whole : Fault) (now inner left : A) (found : Fault) → F now ≡ F inner → option_or (F now) found ≡ whole → left ≡ inner → option_or (F left) found ≡ whole
  one_part whole now inner left found at inv is = ap (λ (x : A). option_or (F x) found) is ∙ ap (λ (o : Fault). option_or o found) (sym at) ∙ inv

  pub two_parts : (whole : Fault) (now left right l q : A) (found f more : Fault) → F now ≡ option_or (F left) (F right) → option_or (F now) found ≡ whole
      → l ≡ left → q ≡ right → f ≡ F q → more ≡ option_or f found → option_or (F l) more ≡ whole
  two_parts whole now left right l q found f more at inv el eq ef em =
      ap (λ (x : A). option_or (F x) more) el
      ∙ ap (λ (o : Fault). option_or (F left) o) (em ∙ ap (λ (o : Fault). option_or o found) (ef ∙ ap F eq))
      ∙ assoc (F left) (F right) found ∙ ap (λ (o : Fault). option_or o found) (sym at) ∙ inv

  pub ends : (whole : Fault) (now : A) (last found result : Fault) → F now ≡ last → option_or (F now) found ≡ whole → result ≡ option_or last found → result ≡ whole
  ends whole now last found result at inv er = er ∙ ap (λ (o : Fault). option_or o found) (sym at) ∙ inv
