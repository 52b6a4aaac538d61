-- An index expression is that of its plain data.
use Rattle.std.proofs.Common.{◌≡◌, ◌∙◌, ap, sym, subst, ℤ, List}
use Rattle.c_tree.specs.declared.index.Index.{Index, Index-F, ind-Index, map-Index, roll-Index}
use Rattle.c_tree.specs.declared.index.Index.TheOpen as layer
use Rattle.c_tree.specs.declared.index.Index.TheVariants.{Const, Var, At, Neg, Plus, Minus, Times, Min, Max, Floor, Ceil, rolls-Const, rolls-Var, rolls-At, rolls-Neg, rolls-Plus, rolls-Minus, rolls-Times, rolls-Min, rolls-Max, rolls-Floor, rolls-Ceil}
use Rattle.c_tree.specs.declared.index.Subscripts.{Subscripts, Subscripts-F, map-Subscripts, roll-Subscripts}
use Rattle.c_tree.specs.declared.index.Subscripts.TheVariants.{One, Two, Three, rolls-One, rolls-Two, rolls-Three}
use Rattle.c_tree.specs.declared.index.Cell.{Cell, Cell-F, map-Cell, roll-Cell}
use Rattle.c_meaning.specs.Names.{Name}
use Rattle.acceptance.specs.Expressions.{Expression, plain, plains, cell_of, index_of}
use Rattle.acceptance_laws.specs.Plain.{PlainIsExpression}
use Rattle.acceptance.proofs.Equations.{plain-Const, plain-Var, plain-At, plain-Neg, plain-Plus, plain-Minus, plain-Times, plain-Min, plain-Max, plain-Floor, plain-Ceil, plains-One, plains-Two, plains-Three}

abbrev Back : Index → Type 0
Back e = index_of (plain e) ≡ e

abbrev BackAll : Subscripts → Type 0
BackAll s = (a : Name) → index_of (cell_of a (plains s)) ≡ At (record { array = a; at = s })

abbrev BackCell : Cell → Type 0
BackCell c = index_of (cell_of c.array (plains c.at)) ≡ At c

one_back : (f : Index → Index) (p : Expression) (a : Index) (e : Index) → plain e ≡ p → index_of p ≡ f (index_of (plain a)) → f a ≡ e → Back a → Back e
one_back f p a e h k d i = ap index_of h ∙ k ∙ ap f i ∙ d

module _ {A B C : Type 0} (f : A → Index) (g : B → Subscripts) (h : C → Cell) (p : (a : A) → Back (f a)) (q : (b : B) → BackAll (g b)) (r : (c : C) → BackCell (h c)) where
  layer_of : (y : Index-F A B C) → Back (roll-Index (map-Index A B C Index Subscripts Cell f g h y))
  layer_of (layer.Const n) = subst Back (sym (rolls-Const n)) (ap index_of (plain-Const n))
  layer_of (layer.Var x) = subst Back (sym (rolls-Var x)) (ap index_of (plain-Var x))
  layer_of (layer.At c) = subst Back (sym (rolls-At (h c))) (ap index_of (plain-At (h c)) ∙ r c)
  layer_of (layer.Neg a) = subst Back (sym (rolls-Neg (f a))) (ap index_of (plain-Neg (f a)) ∙ ap (λ (x : Index). Neg x) (p a))
  layer_of (layer.Plus a b) = subst Back (sym (rolls-Plus (f a) (f b))) (ap index_of (plain-Plus (f a) (f b)) ∙ ap (λ (x : Index). Plus x (index_of (plain (f b)))) (p a) ∙ ap (λ (x : Index). Plus (f a) x) (p b))
  layer_of (layer.Minus a b) = subst Back (sym (rolls-Minus (f a) (f b))) (ap index_of (plain-Minus (f a) (f b)) ∙ ap (λ (x : Index). Minus x (index_of (plain (f b)))) (p a) ∙ ap (λ (x : Index). Minus (f a) x) (p b))
  layer_of (layer.Times n a) = subst Back (sym (rolls-Times n (f a))) (ap index_of (plain-Times n (f a)) ∙ ap (λ (x : Index). Times n x) (p a))
  layer_of (layer.Min a b) = subst Back (sym (rolls-Min (f a) (f b))) (ap index_of (plain-Min (f a) (f b)) ∙ ap (λ (x : Index). Min x (index_of (plain (f b)))) (p a) ∙ ap (λ (x : Index). Min (f a) x) (p b))
  layer_of (layer.Max a b) = subst Back (sym (rolls-Max (f a) (f b))) (ap index_of (plain-Max (f a) (f b)) ∙ ap (λ (x : Index). Max x (index_of (plain (f b)))) (p a) ∙ ap (λ (x : Index). Max (f a) x) (p b))
  layer_of (layer.Floor a d) = subst Back (sym (rolls-Floor (f a) d)) (ap index_of (plain-Floor (f a) d) ∙ ap (λ (x : Index). Floor x d) (p a))
  layer_of (layer.Ceil a d) = subst Back (sym (rolls-Ceil (f a) d)) (ap index_of (plain-Ceil (f a) d) ∙ ap (λ (x : Index). Ceil x d) (p a))

  subscripts_of : (y : Subscripts-F A B C) → BackAll (roll-Subscripts (map-Subscripts A B C Index Subscripts Cell f g h y))
  subscripts_of (layer.One a) = subst BackAll (sym (rolls-One (f a))) (λ n. ap (λ (es : List Expression). index_of (cell_of n es)) (plains-One (f a)) ∙ ap (λ (x : Index). At (record { array = n; at = One x })) (p a))
  subscripts_of (layer.Two a b) = subst BackAll (sym (rolls-Two (f a) (f b))) (λ n.
      ap (λ (es : List Expression). index_of (cell_of n es)) (plains-Two (f a) (f b))
      ∙ ap (λ (x : Index). At (record { array = n; at = Two x (index_of (plain (f b))) })) (p a) ∙ ap (λ (x : Index). At (record { array = n; at = Two (f a) x })) (p b))
  subscripts_of (layer.Three a b c) = subst BackAll (sym (rolls-Three (f a) (f b) (f c))) (λ n.
      ap (λ (es : List Expression). index_of (cell_of n es)) (plains-Three (f a) (f b) (f c))
      ∙ ap (λ (x : Index). At (record { array = n; at = Three x (index_of (plain (f b))) (index_of (plain (f c))) })) (p a)
      ∙ ap (λ (x : Index). At (record { array = n; at = Three (f a) x (index_of (plain (f c))) })) (p b) ∙ ap (λ (x : Index). At (record { array = n; at = Three (f a) (f b) x })) (p c))

  cell_back : (y : Cell-F A B C) → BackCell (roll-Cell (map-Cell A B C Index Subscripts Cell f g h y))
  cell_back y = q y.at y.array

pub plain_back : PlainIsExpression
plain_back = ind-Index Back BackAll BackCell
    (λ x y is. subst (λ d. Back (roll-Index d)) is (layer_of (λ e. e.0) (λ e. e.0) (λ e. e.0) (λ e. e.1) (λ e. e.1) (λ e. e.1) y))
    (λ x y is. subst (λ d. BackAll (roll-Subscripts d)) is (subscripts_of (λ e. e.0) (λ e. e.0) (λ e. e.0) (λ e. e.1) (λ e. e.1) (λ e. e.1) y))
    (λ x y is. subst (λ d. BackCell (roll-Cell d)) is (cell_back (λ e. e.0) (λ e. e.0) (λ e. e.0) (λ e. e.1) (λ e. e.1) (λ e. e.1) y))
