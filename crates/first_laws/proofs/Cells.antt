-- A cell and a right side mean the same where the renamed variables have the same values.
use Rattle.std.proofs.Common.{◌≡◌, refl, sym, ap, ◌∙◌, pos, Bool, true, false, List, [], ◌∷◌, Option, Some, None, Ok, Err, if◌then◌else◌}
use Rattle.c_tree.specs.declared.index.Index.{Index, Index-F, out-Index}
use Rattle.c_tree.specs.declared.index.Index.TheVariants.{Var}
use Rattle.c_tree.specs.declared.index.Index.TheOpen as index_layer
use Rattle.c_tree.specs.declared.index.Index.TheOpen.{Subscripts-F, One, Two, Three}
use Rattle.c_tree.specs.declared.index.Cell.{Cell}
use Rattle.c_tree.specs.declared.index.Subscripts.{Subscripts, out-Subscripts}
use Rattle.c_tree.specs.declared.index.Subscripts.TheVariants as at
use Rattle.c_tree.specs.declared.data.Expr.{Expr, Expr-F, out-Expr}
use Rattle.c_tree.specs.declared.data.Expr.TheVariants as expr
use Rattle.c_tree.specs.declared.data.Expr.TheOpen as expr_layer
use Rattle.c_tree.specs.declared.program.Array.{Array}
use Rattle.first_form.specs.declared.nest.Turn.{Turn}
use Rattle.first_form.specs.Sizes.{Name, is_same}
use Rattle.first_form.specs.Nests.{turn_with, over, subscript_layer, subscript, one, two, three, extents_of, cell_at, cell, loaded, value_layer, value}
use Rattle.first_form.specs.Nests as written
use Rattle.c_meaning.specs.declared.fault.EvalFault.TheVariants.{Outside}
use Rattle.c_meaning.specs.Value.{Answer, ◌>>=◌, measure, judged_answer, subscripts_of, three_answers}
use Rattle.c_meaning.specs.Weighed.{plain}
use Rattle.c_meaning.specs.Memory.{Spot}
use Rattle.c_meaning.specs.Ground.{load}
use Rattle.c_meaning.specs.Listing.{Scene, spot, ground}
use Rattle.c_meaning.proofs.Equations.{measure_at, measure-Var, subscripts_at, subscripts-One, subscripts-Two, subscripts-Three}
use Rattle.c_meaning.proofs.Parts.{ground_at, ground-Const, ground-At}
use Rattle.first_laws.proofs.Inversion.{some_is}

-- each renamed variable has the old one's value, and the arrays are the same
pub record IsRenamed (ts : List Turn) (c d : Scene) : Type 0 where
  pub values : (x : Name) (t : Turn) → turn_with ts x ≡ Some t → (c.sight).value x ≡ (d.sight).value t.written
  pub inside : c.inside ≡ d.inside

module _ (ts : List Turn) (c d : Scene) (r : IsRenamed ts c d) where
  turn_alike : (x : Name) (t : Turn) (b : Bool) (j : Index) → turn_with ts x ≡ Some t → (if b then Some (Var t.written) else None) ≡ Some j → Ok (plain ((c.sight).value x)) ≡ measure j d.sight
  turn_alike x t true j h g = ap (λ v. Ok (plain v)) (r.values x t h) ∙ sym (measure-Var t.written d.sight) ∙ ap (λ j. measure j d.sight) (some_is (Var t.written) j g)
  turn_alike x t false j h g = absurd cc

  over_alike : (x : Name) (e : Index) (o : Option Turn) (j : Index) → turn_with ts x ≡ o → over e o ≡ Some j → Ok (plain ((c.sight).value x)) ≡ measure j d.sight
  over_alike x e (Some t) j h g = turn_alike x t (is_same t.high e) j h g
  over_alike x e None j h g = absurd cc

  layer_alike : (e : Index) (i : Index) (k : Index-F Index Subscripts Cell) (j : Index) → out-Index i ≡ k → subscript_layer ts e k ≡ Some j → measure i c.sight ≡ measure j d.sight
  layer_alike e i (index_layer.Var x) j h g = measure_at i (index_layer.Var x) h c.sight ∙ over_alike x e (turn_with ts x) j refl g
  layer_alike e i (index_layer.Const n) j h g = absurd cc
  layer_alike e i (index_layer.At n) j h g = absurd cc
  layer_alike e i (index_layer.Neg n) j h g = absurd cc
  layer_alike e i (index_layer.Plus n m) j h g = absurd cc
  layer_alike e i (index_layer.Minus n m) j h g = absurd cc
  layer_alike e i (index_layer.Times n m) j h g = absurd cc
  layer_alike e i (index_layer.Min n m) j h g = absurd cc
  layer_alike e i (index_layer.Max n m) j h g = absurd cc
  layer_alike e i (index_layer.Floor n m) j h g = absurd cc
  layer_alike e i (index_layer.Ceil n m) j h g = absurd cc

  subscript_alike : (e i j : Index) → subscript ts e i ≡ Some j → measure i c.sight ≡ measure j d.sight
  subscript_alike e i j h = layer_alike e i (out-Index i) j refl h

  one_alike : (e i : Index) (o : Option Index) (js : Subscripts) → subscript ts e i ≡ o → one o ≡ Some js
      → three_answers (judged_answer (measure i c.sight)) (Ok (pos 0)) (Ok (pos 0)) ≡ subscripts_of js d.sight
  one_alike e i (Some j) js h g =
      ap (λ a. three_answers (judged_answer a) (Ok (pos 0)) (Ok (pos 0))) (subscript_alike e i j h)
      ∙ sym (subscripts-One j d.sight) ∙ ap (λ js. subscripts_of js d.sight) (some_is (at.One j) js g)
  one_alike e i None js h g = absurd cc

  two_alike : (e f i j : Index) (o q : Option Index) (js : Subscripts) → subscript ts e i ≡ o → subscript ts f j ≡ q → two o q ≡ Some js
      → three_answers (judged_answer (measure i c.sight)) (judged_answer (measure j c.sight)) (Ok (pos 0)) ≡ subscripts_of js d.sight
  two_alike e f i j (Some i') (Some j') js h k g =
      ap (λ a. three_answers (judged_answer a) (judged_answer (measure j c.sight)) (Ok (pos 0))) (subscript_alike e i i' h)
      ∙ ap (λ a. three_answers (judged_answer (measure i' d.sight)) (judged_answer a) (Ok (pos 0))) (subscript_alike f j j' k)
      ∙ sym (subscripts-Two i' j' d.sight) ∙ ap (λ js. subscripts_of js d.sight) (some_is (at.Two i' j') js g)
  two_alike e f i j (Some i') None js h k g = absurd cc
  two_alike e f i j None q js h k g = absurd cc

  three_alike : (e f g i j l : Index) (o q u : Option Index) (js : Subscripts) → subscript ts e i ≡ o → subscript ts f j ≡ q → subscript ts g l ≡ u → three o q u ≡ Some js
      → three_answers (judged_answer (measure i c.sight)) (judged_answer (measure j c.sight)) (judged_answer (measure l c.sight)) ≡ subscripts_of js d.sight
  three_alike e f g i j l (Some i') (Some j') (Some l') js h k m n =
      ap (λ a. three_answers (judged_answer a) (judged_answer (measure j c.sight)) (judged_answer (measure l c.sight))) (subscript_alike e i i' h)
      ∙ ap (λ a. three_answers (judged_answer (measure i' d.sight)) (judged_answer a) (judged_answer (measure l c.sight))) (subscript_alike f j j' k)
      ∙ ap (λ a. three_answers (judged_answer (measure i' d.sight)) (judged_answer (measure j' d.sight)) (judged_answer a)) (subscript_alike g l l' m)
      ∙ sym (subscripts-Three i' j' l' d.sight) ∙ ap (λ js. subscripts_of js d.sight) (some_is (at.Three i' j' l') js n)
  three_alike e f g i j l (Some i') (Some j') None js h k m n = absurd cc
  three_alike e f g i j l (Some i') None u js h k m n = absurd cc
  three_alike e f g i j l None q u js h k m n = absurd cc

  subscripts_alike_layer : (es : List Index) (is : Subscripts) (k : Subscripts-F Index Subscripts Cell) (js : Subscripts) → out-Subscripts is ≡ k → written.subscripts_layer ts es k ≡ Some js
      → subscripts_of is c.sight ≡ subscripts_of js d.sight
  subscripts_alike_layer (e ∷ []) is (One i) js h g = subscripts_at is (One i) h c.sight ∙ one_alike e i (subscript ts e i) js refl g
  subscripts_alike_layer (e ∷ f ∷ []) is (Two i j) js h g = subscripts_at is (Two i j) h c.sight ∙ two_alike e f i j (subscript ts e i) (subscript ts f j) js refl refl g
  subscripts_alike_layer (e ∷ f ∷ m ∷ []) is (Three i j l) js h g =
      subscripts_at is (Three i j l) h c.sight ∙ three_alike e f m i j l (subscript ts e i) (subscript ts f j) (subscript ts m l) js refl refl refl g
  subscripts_alike_layer [] is (One i) js h g = absurd cc
  subscripts_alike_layer [] is (Two i j) js h g = absurd cc
  subscripts_alike_layer [] is (Three i j l) js h g = absurd cc
  subscripts_alike_layer (e ∷ []) is (Two i j) js h g = absurd cc
  subscripts_alike_layer (e ∷ []) is (Three i j l) js h g = absurd cc
  subscripts_alike_layer (e ∷ f ∷ []) is (One i) js h g = absurd cc
  subscripts_alike_layer (e ∷ f ∷ []) is (Three i j l) js h g = absurd cc
  subscripts_alike_layer (e ∷ f ∷ m ∷ []) is (One i) js h g = absurd cc
  subscripts_alike_layer (e ∷ f ∷ m ∷ []) is (Two i j) js h g = absurd cc
  subscripts_alike_layer (e ∷ f ∷ m ∷ n ∷ more) is (One i) js h g = absurd cc
  subscripts_alike_layer (e ∷ f ∷ m ∷ n ∷ more) is (Two i j) js h g = absurd cc
  subscripts_alike_layer (e ∷ f ∷ m ∷ n ∷ more) is (Three i j l) js h g = absurd cc

  cell_alike : (e : Cell) (es : List Index) (o : Option Subscripts) (e' : Cell) → written.subscripts ts es e.at ≡ o → cell_at e.array o ≡ Some e' → spot e c ≡ spot e' d
  cell_alike e es (Some is) e' h g =
      let x : Name = e.array in
      let made : Cell = record { array = x; at = is } in
      ap (λ a. a >>= (λ at. let x : Spot = record { array = e.array; at = at } in (if c.inside x then Ok x else Err (Outside e.array)))) (subscripts_alike_layer es e.at (out-Subscripts e.at) is refl h)
      ∙ ap (λ (f : Spot → Bool). subscripts_of is d.sight >>= (λ at. let x : Spot = record { array = e.array; at = at } in (if f x then Ok x else Err (Outside e.array)))) r.inside
      ∙ ap (λ e'. spot e' d) (some_is made e' g)
  cell_alike e es None e' h g = absurd cc

  pub cells_alike : (arrays : List Array) (e e' : Cell) → cell arrays ts e ≡ Some e' → spot e c ≡ spot e' d
  cells_alike arrays e e' h = cell_alike e (extents_of arrays e.array) (written.subscripts ts (extents_of arrays e.array) e.at) e' refl h

  loaded_alike : (arrays : List Array) (e : Cell) (o : Option Cell) (b : Expr) → cell arrays ts e ≡ o → loaded o ≡ Some b → (spot e c >>= (λ x. Ok (load x))) ≡ ground b d
  loaded_alike arrays e (Some e') b h g =
      ap (λ (a : Answer Spot). a >>= (λ x. Ok (load x))) (cells_alike arrays e e' h) ∙ sym (ground-At e' d) ∙ ap (λ b. ground b d) (some_is (expr.At e') b g)
  loaded_alike arrays e None b h g = absurd cc

  side_layer : (arrays : List Array) (a : Expr) (k : Expr-F Expr) (b : Expr) → out-Expr a ≡ k → value_layer arrays ts k ≡ Some b → ground a c ≡ ground b d
  side_layer arrays a (expr_layer.Const n) b h g = ground_at a (expr_layer.Const n) h c ∙ sym (ground-Const n d) ∙ ap (λ b. ground b d) (some_is (expr.Const n) b g)
  side_layer arrays a (expr_layer.At e) b h g = ground_at a (expr_layer.At e) h c ∙ loaded_alike arrays e (cell arrays ts e) b refl g
  side_layer arrays a (expr_layer.Plus e f) b h g = absurd cc
  side_layer arrays a (expr_layer.Minus e f) b h g = absurd cc
  side_layer arrays a (expr_layer.Times e f) b h g = absurd cc

  pub sides_alike : (arrays : List Array) (a b : Expr) → value arrays ts a ≡ Some b → ground a c ≡ ground b d
  sides_alike arrays a b h = side_layer arrays a (out-Expr a) b refl h
