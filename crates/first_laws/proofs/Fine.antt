-- On a valid input no access of a program of the first form is outside.
use Rattle.std.proofs.Common.{arith, ◌≡◌, refl, sym, ap, ◌∙◌, ℕ, ◌≤◌, ◌<◌, ℤ, pos, Bool, true, false, ◌&&◌, List, [], ◌∷◌, Option, Some, None, Ok, Err, if◌then◌else◌}
use Rattle.std.specs.Prelude.{bytes_eq, int_le, int_lt, ◌^◌}
use Rattle.std.proofs.lemmas.Bool.Decides.{Decides-int_eq}
use Rattle.c_tree.specs.declared.index.Index.{Index, Index-F, out-Index, roll-Index}
use Rattle.c_tree.specs.declared.index.Index.TheViews.{roll-out-Index}
use Rattle.c_tree.specs.declared.index.Index.TheVariants.{Const, Var, rolls-Const, rolls-Var}
use Rattle.c_tree.specs.declared.index.Index.TheOpen as index_layer
use Rattle.c_tree.specs.declared.index.Index.TheOpen.{Subscripts-F, One, Two, Three}
use Rattle.c_tree.specs.declared.index.Cell.{Cell}
use Rattle.c_tree.specs.declared.index.Subscripts.{Subscripts, out-Subscripts}
use Rattle.c_tree.specs.declared.data.Expr.{Expr, Expr-F, out-Expr}
use Rattle.c_tree.specs.declared.data.Expr.TheOpen as expr_layer
use Rattle.c_tree.specs.declared.program.Array.{Array}
use Rattle.first_form.specs.declared.size.Size.{Size}
use Rattle.first_form.specs.declared.size.Size.TheVariants.{Param, Number}
use Rattle.first_form.specs.declared.nest.Turn.{Turn}
use Rattle.first_form.specs.Sizes.{Name, expression_of, is_same, same_layer}
use Rattle.first_form.specs.Nests.{turn_with, over, subscript_layer, subscript, one, two, three, extents_of, cell_at, cell, loaded, value_layer, value}
use Rattle.first_form.specs.Nests as written
use Rattle.c_meaning.specs.declared.fault.EvalFault.TheVariants.{Outside}
use Rattle.c_meaning.specs.Value.{Answer, Sight, ◌>>=◌, is_inside, measure, judged_answer, subscripts_of, three_answers, value_of, values_of}
use Rattle.c_meaning.specs.Weighed.{plain}
use Rattle.c_meaning.specs.Memory.{Spot}
use Rattle.c_meaning.specs.Inputs.{Input, sight_of_parameters, array_named, three_of, extents_in}
use Rattle.c_meaning.specs.Ground.{number, load}
use Rattle.c_meaning.specs.Listing.{Scene, spot, ground}
use Rattle.c_meaning.proofs.Equations.{measure_at, subscripts_at}
use Rattle.c_meaning.proofs.Spots.{name_is}
use Rattle.c_meaning.proofs.Parts.{ground_at}
use Rattle.first_laws.proofs.Amounts.{judged_small, is_below}

-- an answer that is no fault
pub record IsGiven {A : Type 0} (a : Answer A) : Type 0 where
  pub given : A
  pub is : a ≡ Ok given

-- the expression of a size
same_as_layer : (z : Size) (d : Index-F Index Subscripts Cell) → same_layer z d ≡ true → expression_of z ≡ roll-Index d
same_as_layer (Param x) (index_layer.Var y) h = ap Var (name_is x y h) ∙ sym (rolls-Var y)
same_as_layer (Number m) (index_layer.Const n) h = ap Const ((Decides-int_eq m n).0 h) ∙ sym (rolls-Const n)
same_as_layer (Param x) (index_layer.Const n) h = absurd cc
same_as_layer (Param x) (index_layer.At n) h = absurd cc
same_as_layer (Param x) (index_layer.Neg n) h = absurd cc
same_as_layer (Param x) (index_layer.Plus n m) h = absurd cc
same_as_layer (Param x) (index_layer.Minus n m) h = absurd cc
same_as_layer (Param x) (index_layer.Times n m) h = absurd cc
same_as_layer (Param x) (index_layer.Min n m) h = absurd cc
same_as_layer (Param x) (index_layer.Max n m) h = absurd cc
same_as_layer (Param x) (index_layer.Floor n m) h = absurd cc
same_as_layer (Param x) (index_layer.Ceil n m) h = absurd cc
same_as_layer (Number m) (index_layer.Var y) h = absurd cc
same_as_layer (Number m) (index_layer.At n) h = absurd cc
same_as_layer (Number m) (index_layer.Neg n) h = absurd cc
same_as_layer (Number m) (index_layer.Plus n k) h = absurd cc
same_as_layer (Number m) (index_layer.Minus n k) h = absurd cc
same_as_layer (Number m) (index_layer.Times n k) h = absurd cc
same_as_layer (Number m) (index_layer.Min n k) h = absurd cc
same_as_layer (Number m) (index_layer.Max n k) h = absurd cc
same_as_layer (Number m) (index_layer.Floor n k) h = absurd cc
same_as_layer (Number m) (index_layer.Ceil n k) h = absurd cc

same_as : (z : Size) (e : Index) → is_same z e ≡ true → expression_of z ≡ e
same_as z e h = same_as_layer z (out-Index e) h ∙ roll-out-Index e

-- a loop variable is at a turn of its loop
pub record IsAtTurn (i : Input) (z : Size) (v : ℤ) : Type 0 where
  pub at : ℕ
  pub amount : ℕ
  pub is : v ≡ pos at
  pub below : at < amount
  pub small : amount ≤ 2 ^ 31
  pub size : value_of (expression_of z) (sight_of_parameters i) ≡ Ok (pos amount)

-- a subscript is in its extent
record IsInExtent (i : Input) (c : Scene) (e k : Index) : Type 0 where
  at : ℕ
  extent : ℕ
  below : at < extent
  small : extent ≤ 2 ^ 31
  value : judged_answer (measure k c.sight) ≡ Ok (pos at)
  size : value_of e (sight_of_parameters i) ≡ Ok (pos extent)

-- each loop variable is at a turn, and each spot that is inside the declared extents is inside
pub record IsAtTurns (arrays : List Array) (i : Input) (ts : List Turn) (c : Scene) : Type 0 where
  pub turns : (x : Name) (t : Turn) → turn_with ts x ≡ Some t → IsAtTurn i t.high ((c.sight).value x)
  pub inside : (x : Spot) → is_inside x.at (extents_in (array_named x.array arrays) i) ≡ true → c.inside x ≡ true

below_small : (v h : ℕ) → v < h → h ≤ 2 ^ 31 → v ≤ 2 ^ 31
below_small v h k s = omega arith

module _ (arrays : List Array) (i : Input) (ts : List Turn) (c : Scene) (r : IsAtTurns arrays i ts c) where
  turn_in : (e k : Index) (x : Name) (t : Turn) (b : Bool) (j : Index) → is_same t.high e ≡ b → measure k c.sight ≡ Ok (plain ((c.sight).value x)) → turn_with ts x ≡ Some t
      → (if b then Some (Var t.written) else None) ≡ Some j → IsInExtent i c e k
  turn_in e k x t true j h m g n =
      let u : IsAtTurn i t.high ((c.sight).value x) = r.turns x t g in
      record {
        at = u.at;
        extent = u.amount;
        below = u.below;
        small = u.small;
        value = ap judged_answer m ∙ ap (λ v. judged_answer (Ok (plain v))) u.is ∙ judged_small u.at (below_small u.at u.amount u.below u.small);
        size = ap (λ e. value_of e (sight_of_parameters i)) (sym (same_as t.high e h)) ∙ u.size;
      }
  turn_in e k x t false j h m g n = absurd cc

  over_in : (e k : Index) (x : Name) (o : Option Turn) (j : Index) → measure k c.sight ≡ Ok (plain ((c.sight).value x)) → turn_with ts x ≡ o → over e o ≡ Some j → IsInExtent i c e k
  over_in e k x (Some t) j m h g = turn_in e k x t (is_same t.high e) j refl m h g
  over_in e k x None j m h g = absurd cc

  layer_in : (e k : Index) (d : Index-F Index Subscripts Cell) (j : Index) → out-Index k ≡ d → subscript_layer ts e d ≡ Some j → IsInExtent i c e k
  layer_in e k (index_layer.Var x) j h g = over_in e k x (turn_with ts x) j (measure_at k (index_layer.Var x) h c.sight) refl g
  layer_in e k (index_layer.Const n) j h g = absurd cc
  layer_in e k (index_layer.At n) j h g = absurd cc
  layer_in e k (index_layer.Neg n) j h g = absurd cc
  layer_in e k (index_layer.Plus n m) j h g = absurd cc
  layer_in e k (index_layer.Minus n m) j h g = absurd cc
  layer_in e k (index_layer.Times n m) j h g = absurd cc
  layer_in e k (index_layer.Min n m) j h g = absurd cc
  layer_in e k (index_layer.Max n m) j h g = absurd cc
  layer_in e k (index_layer.Floor n m) j h g = absurd cc
  layer_in e k (index_layer.Ceil n m) j h g = absurd cc

  -- a subscript for which something is written
  subscript_in : (e k : Index) (o : Option Index) → subscript ts e k ≡ o → (j : Index) → o ≡ Some j → IsInExtent i c e k
  subscript_in e k o h j g = layer_in e k (out-Index k) j refl (h ∙ g)

  -- the spot that subscripts name is inside the declared extents
  record AreInside (x : Name) (is : Subscripts) : Type 0 where
    at : List ℤ
    value : subscripts_of is c.sight ≡ Ok at
    inside : is_inside at (extents_in (array_named x arrays) i) ≡ true

  abbrev sp : Sight
  sp = sight_of_parameters i

  values_more : (e : Index) (es : List Index) (v : ℤ) (vs : List ℤ) → value_of e sp ≡ Ok v → values_of es sp ≡ Ok vs → values_of (e ∷ es) sp ≡ Ok (v ∷ vs)
  values_more e es v vs h k =
      ap (λ (a : Answer ℤ). a >>= (λ v. values_of es sp >>= (λ vs. Ok (v ∷ vs)))) h ∙ ap (λ (a : Answer (List ℤ)). a >>= (λ vs. Ok (v ∷ vs))) k

  -- the extents of the array of that name
  declared_by : (x : Name) (a : Array) (more : List Array) (b : Bool) (es : List Index) → (if b then a.extents else extents_of more x) ≡ es
      → (extents_of more x ≡ es → extents_in (array_named x more) i ≡ three_of (values_of es sp)) → extents_in (if b then Some a else array_named x more) i ≡ three_of (values_of es sp)
  declared_by x a more true es h k = ap (λ es. three_of (values_of es sp)) h
  declared_by x a more false es h k = k h

  declared : (as' : List Array) (x : Name) (e : Index) (es : List Index) → extents_of as' x ≡ e ∷ es → extents_in (array_named x as') i ≡ three_of (values_of (e ∷ es) sp)
  declared [] x e es h = absurd cc
  declared (a ∷ more) x e es h = declared_by x a more (bytes_eq a.name x) (e ∷ es) h (declared more x e es)

  both : (p q : Bool) → p ≡ true → q ≡ true → (p && q) ≡ true
  both true q h k = k
  both false q h k = absurd cc

  within : (v h : ℕ) (is es : List ℤ) → v < h → is_inside is es ≡ true → is_inside (pos v ∷ is) (pos h ∷ es) ≡ true
  within v h is es k g = both (int_le (pos 0) (pos v) && int_lt (pos v) (pos h)) (is_inside is es) (is_below v h k) g

  one_inside : (x : Name) (is : Subscripts) (e k : Index) → out-Subscripts is ≡ One k → extents_of arrays x ≡ e ∷ [] → IsInExtent i c e k → AreInside x is
  one_inside x is e k h g p = record {
    at = pos p.at ∷ pos 0 ∷ pos 0 ∷ [];
    value = subscripts_at is (One k) h c.sight ∙ ap (λ a. three_answers a (Ok (pos 0)) (Ok (pos 0))) p.value;
    inside =
        ap (is_inside (pos p.at ∷ pos 0 ∷ pos 0 ∷ [])) (declared arrays x e [] g ∙ ap three_of (values_more e [] (pos p.extent) [] p.size refl))
        ∙ within p.at p.extent (pos 0 ∷ pos 0 ∷ []) (pos 1 ∷ pos 1 ∷ []) p.below refl;
  }

  two_inside : (x : Name) (is : Subscripts) (e f k l : Index) → out-Subscripts is ≡ Two k l → extents_of arrays x ≡ e ∷ f ∷ [] → IsInExtent i c e k → IsInExtent i c f l → AreInside x is
  two_inside x is e f k l h g p q = record {
    at = pos p.at ∷ pos q.at ∷ pos 0 ∷ [];
    value =
        subscripts_at is (Two k l) h c.sight ∙ ap (λ a. three_answers a (judged_answer (measure l c.sight)) (Ok (pos 0))) p.value
        ∙ ap (λ a. three_answers (Ok (pos p.at)) a (Ok (pos 0))) q.value;
    inside =
        ap (is_inside (pos p.at ∷ pos q.at ∷ pos 0 ∷ []))
        (declared arrays x e (f ∷ []) g ∙ ap three_of (values_more e (f ∷ []) (pos p.extent) (pos q.extent ∷ []) p.size (values_more f [] (pos q.extent) [] q.size refl)))
        ∙ within p.at p.extent (pos q.at ∷ pos 0 ∷ []) (pos q.extent ∷ pos 1 ∷ []) p.below (within q.at q.extent (pos 0 ∷ []) (pos 1 ∷ []) q.below refl);
  }

  three_inside : (x : Name) (is : Subscripts) (e f m k l n : Index) → out-Subscripts is ≡ Three k l n → extents_of arrays x ≡ e ∷ f ∷ m ∷ [] → IsInExtent i c e k → IsInExtent i c f l → IsInExtent i c m n → AreInside x is
  three_inside x is e f m k l n h g p q u = record {
    at = pos p.at ∷ pos q.at ∷ pos u.at ∷ [];
    value =
        subscripts_at is (Three k l n) h c.sight ∙ ap (λ a. three_answers a (judged_answer (measure l c.sight)) (judged_answer (measure n c.sight))) p.value
        ∙ ap (λ a. three_answers (Ok (pos p.at)) a (judged_answer (measure n c.sight))) q.value ∙ ap (λ a. three_answers (Ok (pos p.at)) (Ok (pos q.at)) a) u.value;
    inside =
        ap (is_inside (pos p.at ∷ pos q.at ∷ pos u.at ∷ []))
        (declared arrays x e (f ∷ m ∷ []) g
        ∙ ap three_of (values_more e (f ∷ m ∷ []) (pos p.extent) (pos q.extent ∷ pos u.extent ∷ []) p.size
        (values_more f (m ∷ []) (pos q.extent) (pos u.extent ∷ []) q.size (values_more m [] (pos u.extent) [] u.size refl))))
        ∙ within p.at p.extent (pos q.at ∷ pos u.at ∷ []) (pos q.extent ∷ pos u.extent ∷ []) p.below
        (within q.at q.extent (pos u.at ∷ []) (pos u.extent ∷ []) q.below (within u.at u.extent [] [] u.below refl));
  }

  one_case : (x : Name) (is : Subscripts) (e k : Index) (o : Option Index) (js : Subscripts) → out-Subscripts is ≡ One k → extents_of arrays x ≡ e ∷ [] → subscript ts e k ≡ o → one o ≡ Some js → AreInside x is
  one_case x is e k (Some j) js h g a n = one_inside x is e k h g (subscript_in e k (Some j) a j refl)
  one_case x is e k None js h g a n = absurd cc

  two_case : (x : Name) (is : Subscripts) (e f k l : Index) (o q : Option Index) (js : Subscripts) → out-Subscripts is ≡ Two k l → extents_of arrays x ≡ e ∷ f ∷ [] → subscript ts e k ≡ o → subscript ts f l ≡ q → two o q ≡ Some js → AreInside x is
  two_case x is e f k l (Some j) (Some j') js h g a b n = two_inside x is e f k l h g (subscript_in e k (Some j) a j refl) (subscript_in f l (Some j') b j' refl)
  two_case x is e f k l (Some j) None js h g a b n = absurd cc
  two_case x is e f k l None q js h g a b n = absurd cc

  three_case : (x : Name) (is : Subscripts) (e f m k l u : Index) (o q p : Option Index) (js : Subscripts) → out-Subscripts is ≡ Three k l u → extents_of arrays x ≡ e ∷ f ∷ m ∷ []
      → subscript ts e k ≡ o → subscript ts f l ≡ q → subscript ts m u ≡ p → three o q p ≡ Some js → AreInside x is
  three_case x is e f m k l u (Some j) (Some j') (Some j'') js h g a b d n =
      three_inside x is e f m k l u h g (subscript_in e k (Some j) a j refl) (subscript_in f l (Some j') b j' refl) (subscript_in m u (Some j'') d j'' refl)
  three_case x is e f m k l u (Some j) (Some j') None js h g a b d n = absurd cc
  three_case x is e f m k l u (Some j) None p js h g a b d n = absurd cc
  three_case x is e f m k l u None q p js h g a b d n = absurd cc

  layer_inside : (x : Name) (is : Subscripts) (es : List Index) (d : Subscripts-F Index Subscripts Cell) (js : Subscripts) → extents_of arrays x ≡ es → out-Subscripts is ≡ d → written.subscripts_layer ts es d ≡ Some js → AreInside x is
  layer_inside x is (e ∷ []) (One k) js g h n = one_case x is e k (subscript ts e k) js h g refl n
  layer_inside x is (e ∷ f ∷ []) (Two k l) js g h n = two_case x is e f k l (subscript ts e k) (subscript ts f l) js h g refl refl n
  layer_inside x is (e ∷ f ∷ m ∷ []) (Three k l u) js g h n = three_case x is e f m k l u (subscript ts e k) (subscript ts f l) (subscript ts m u) js h g refl refl refl n
  layer_inside x is [] (One k) js g h n = absurd cc
  layer_inside x is [] (Two k l) js g h n = absurd cc
  layer_inside x is [] (Three k l u) js g h n = absurd cc
  layer_inside x is (e ∷ []) (Two k l) js g h n = absurd cc
  layer_inside x is (e ∷ []) (Three k l u) js g h n = absurd cc
  layer_inside x is (e ∷ f ∷ []) (One k) js g h n = absurd cc
  layer_inside x is (e ∷ f ∷ []) (Three k l u) js g h n = absurd cc
  layer_inside x is (e ∷ f ∷ m ∷ []) (One k) js g h n = absurd cc
  layer_inside x is (e ∷ f ∷ m ∷ []) (Two k l) js g h n = absurd cc
  layer_inside x is (e ∷ f ∷ m ∷ o ∷ more) (One k) js g h n = absurd cc
  layer_inside x is (e ∷ f ∷ m ∷ o ∷ more) (Two k l) js g h n = absurd cc
  layer_inside x is (e ∷ f ∷ m ∷ o ∷ more) (Three k l u) js g h n = absurd cc

  spot_given : (e : Cell) → AreInside e.array e.at → IsGiven (spot e c)
  spot_given e p =
      let y : Spot = record { array = e.array; at = p.at } in
      record {
        given = y;
        is = ap (λ a. a >>= (λ at. let x : Spot = record { array = e.array; at = at } in (if c.inside x then Ok x else Err (Outside e.array)))) p.value
            ∙ ap (λ b. if b then Ok y else Err (Outside e.array)) (r.inside y p.inside);
      }

  cell_given_at : (e : Cell) (o : Option Subscripts) (e' : Cell) → written.subscripts ts (extents_of arrays e.array) e.at ≡ o → cell_at e.array o ≡ Some e' → IsGiven (spot e c)
  cell_given_at e (Some js) e' h g = spot_given e (layer_inside e.array e.at (extents_of arrays e.array) (out-Subscripts e.at) js refl refl h)
  cell_given_at e None e' h g = absurd cc

  pub cell_given : (e e' : Cell) → cell arrays ts e ≡ Some e' → IsGiven (spot e c)
  cell_given e e' h = cell_given_at e (written.subscripts ts (extents_of arrays e.array) e.at) e' refl h

  loaded_given : (a : Expr) (e : Cell) (o : Option Cell) (b : Expr) → ground a c ≡ (spot e c >>= (λ x. Ok (load x))) → cell arrays ts e ≡ o → loaded o ≡ Some b → IsGiven (ground a c)
  loaded_given a e (Some e') b m h g =
      let p : IsGiven (spot e c) = cell_given e e' h in
      record { given = load p.given; is = m ∙ ap (λ (y : Answer Spot). y >>= (λ x. Ok (load x))) p.is }
  loaded_given a e None b m h g = absurd cc

  side_given_layer : (a : Expr) (d : Expr-F Expr) (b : Expr) → out-Expr a ≡ d → value_layer arrays ts d ≡ Some b → IsGiven (ground a c)
  side_given_layer a (expr_layer.Const n) b h g = record { given = number n; is = ground_at a (expr_layer.Const n) h c }
  side_given_layer a (expr_layer.At e) b h g = loaded_given a e (cell arrays ts e) b (ground_at a (expr_layer.At e) h c) refl g
  side_given_layer a (expr_layer.Plus e f) b h g = absurd cc
  side_given_layer a (expr_layer.Minus e f) b h g = absurd cc
  side_given_layer a (expr_layer.Times e f) b h g = absurd cc

  pub side_given : (a b : Expr) → value arrays ts a ≡ Some b → IsGiven (ground a c)
  side_given a b h = side_given_layer a (out-Expr a) b refl h
