-- What holds of the subscripts of a written cell.
use Rattle.std.proofs.Common.{◌≡◌, Bool, true, false, List, [], ◌∷◌, refl, subst, Option, Some, None, if◌then◌else◌}
use Rattle.std.specs.Prelude.{bytes_eq}
use Rattle.std.specs.List.{AllByRecursion}
use Rattle.c_tree.specs.declared.index.Index.{Index, Index-F, out-Index}
use Rattle.c_tree.specs.declared.index.Index.TheVariants.{Var}
use Rattle.c_tree.specs.declared.index.Index.TheOpen as open_index
use Rattle.c_tree.specs.declared.index.Index.TheOpen.{Subscripts-F, One, Two, Three}
use Rattle.c_tree.specs.declared.index.Cell.{Cell}
use Rattle.c_tree.specs.declared.index.Subscripts.{Subscripts, out-Subscripts}
use Rattle.c_tree.specs.declared.index.Subscripts.TheVariants as at
use Rattle.c_tree.specs.declared.program.Array.{Array}
use Rattle.c_grammar.specs.Index.{cell_of}
use Rattle.first_form.specs.declared.nest.Turn.{Turn}
use Rattle.first_form.specs.Sizes.{Name, is_same}
use Rattle.first_form.specs.Nests.{turn_with, over, subscript_layer, subscript, one, two, three, subscripts_layer, subscripts, extents_of, cell_at, cell}
use Rattle.first_laws.proofs.Inversion.{some_is}

-- it holds of the written variable of each loop
abbrev pub OfTurns : (Index → Type 0) → List Turn → Type 0
OfTurns P ts = AllByRecursion (λ (t : Turn). P (Var t.written)) ts

turn_holds : (P : Index → Type 0) (ts : List Turn) (x : Name) (t : Turn) → OfTurns P ts → turn_with ts x ≡ Some t → P (Var t.written)
turn_holds P [] x t all h = absurd cc
turn_holds P (u ∷ us) x t all h = by_test (λ k. turn_holds P us x t all.1 k) (bytes_eq u.variable x) h
  where
    by_test : (turn_with us x ≡ Some t → P (Var t.written)) → (c : Bool) → (if c then Some u else turn_with us x) ≡ Some t → P (Var t.written)
    by_test more true k = subst (λ (t : Turn). P (Var t.written)) (some_is u t k) all.0
    by_test more false k = more k

-- the written subscripts are as many, and it holds of each
pub data Hold (P : Index → Type 0) : Subscripts-F Index Subscripts Cell → Subscripts → Type 0 where
  single : {i j : Index} → P j → Hold P (One i) (at.One j)
  double : {i i' j j' : Index} → P j → P j' → Hold P (Two i i') (at.Two j j')
  triple : {i i' i'' j j' j'' : Index} → P j → P j' → P j'' → Hold P (Three i i' i'') (at.Three j j' j'')

module _ (P : Index → Type 0) (ts : List Turn) (all : OfTurns P ts) where
  by_extent : (t : Turn) (c : Bool) (j : Index) → P (Var t.written) → (if c then Some (Var t.written) else None) ≡ Some j → P j
  by_extent t true j n h = subst P (some_is (Var t.written) j h) n
  by_extent t false j n h = absurd cc

  over_holds : (x : Name) (e : Index) (o : Option Turn) (j : Index) → turn_with ts x ≡ o → over e o ≡ Some j → P j
  over_holds x e (Some t) j k h = by_extent t (is_same t.high e) j (turn_holds P ts x t all k) h
  over_holds x e None j k h = absurd cc

  layer_holds : (e : Index) (d : Index-F Index Subscripts Cell) (j : Index) → subscript_layer ts e d ≡ Some j → P j
  layer_holds e (open_index.Var x) j h = over_holds x e (turn_with ts x) j refl h
  layer_holds e (open_index.Const n) j h = absurd cc
  layer_holds e (open_index.At c) j h = absurd cc
  layer_holds e (open_index.Neg x) j h = absurd cc
  layer_holds e (open_index.Plus x y) j h = absurd cc
  layer_holds e (open_index.Minus x y) j h = absurd cc
  layer_holds e (open_index.Times n x) j h = absurd cc
  layer_holds e (open_index.Min x y) j h = absurd cc
  layer_holds e (open_index.Max x y) j h = absurd cc
  layer_holds e (open_index.Floor x n) j h = absurd cc
  layer_holds e (open_index.Ceil x n) j h = absurd cc

  subscript_holds : (e i j : Index) → subscript ts e i ≡ Some j → P j
  subscript_holds e i j h = layer_holds e (out-Index i) j h

  one_holds : (e i : Index) (o : Option Index) (z : Subscripts) → subscript ts e i ≡ o → one o ≡ Some z → Hold P (One i) z
  one_holds e i (Some j) z h g = subst (Hold P (One i)) (some_is (at.One j) z g) (single (subscript_holds e i j h))
  one_holds e i None z h g = absurd cc

  two_hold : (e f i j : Index) (o q : Option Index) (z : Subscripts) → subscript ts e i ≡ o → subscript ts f j ≡ q → two o q ≡ Some z → Hold P (Two i j) z
  two_hold e f i j (Some i') (Some j') z h k g = subst (Hold P (Two i j)) (some_is (at.Two i' j') z g) (double (subscript_holds e i i' h) (subscript_holds f j j' k))
  two_hold e f i j (Some i') None z h k g = absurd cc
  two_hold e f i j None q z h k g = absurd cc

  three_hold : (e f g i j l : Index) (o q u : Option Index) (z : Subscripts) → subscript ts e i ≡ o → subscript ts f j ≡ q → subscript ts g l ≡ u → three o q u ≡ Some z → Hold P (Three i j l) z
  three_hold e f g i j l (Some i') (Some j') (Some l') z h k m n =
      subst (Hold P (Three i j l)) (some_is (at.Three i' j' l') z n) (triple (subscript_holds e i i' h) (subscript_holds f j j' k) (subscript_holds g l l' m))
  three_hold e f g i j l (Some i') (Some j') None z h k m n = absurd cc
  three_hold e f g i j l (Some i') None u z h k m n = absurd cc
  three_hold e f g i j l None q u z h k m n = absurd cc

  subscripts_hold : (es : List Index) (d : Subscripts-F Index Subscripts Cell) (z : Subscripts) → subscripts_layer ts es d ≡ Some z → Hold P d z
  subscripts_hold (e ∷ []) (One i) z h = one_holds e i (subscript ts e i) z refl h
  subscripts_hold (e ∷ f ∷ []) (Two i j) z h = two_hold e f i j (subscript ts e i) (subscript ts f j) z refl refl h
  subscripts_hold (e ∷ f ∷ g ∷ []) (Three i j k) z h = three_hold e f g i j k (subscript ts e i) (subscript ts f j) (subscript ts g k) z refl refl refl h
  subscripts_hold [] d z h = absurd cc
  subscripts_hold (e ∷ []) (Two i j) z h = absurd cc
  subscripts_hold (e ∷ []) (Three i j k) z h = absurd cc
  subscripts_hold (e ∷ f ∷ []) (One i) z h = absurd cc
  subscripts_hold (e ∷ f ∷ []) (Three i j k) z h = absurd cc
  subscripts_hold (e ∷ f ∷ g ∷ []) (One i) z h = absurd cc
  subscripts_hold (e ∷ f ∷ g ∷ []) (Two i j) z h = absurd cc
  subscripts_hold (e ∷ f ∷ g ∷ g' ∷ gs) d z h = absurd cc

  -- a written cell is of the same array
  pub record IsCell (c c' : Cell) : Type 0 where
    pub at : Subscripts
    pub is : cell_of c.array at ≡ c'
    pub hold : Hold P (out-Subscripts c.at) at

  cell_by : (c : Cell) (es : List Index) (o : Option Subscripts) (c' : Cell) → subscripts_layer ts es (out-Subscripts c.at) ≡ o → cell_at c.array o ≡ Some c' → IsCell c c'
  cell_by c es (Some z) c' h g = record { at = z; is = some_is (cell_of c.array z) c' g; hold = subscripts_hold es (out-Subscripts c.at) z h }
  cell_by c es None c' h g = absurd cc

  pub cell_holds : (arrays : List Array) (c c' : Cell) → cell arrays ts c ≡ Some c' → IsCell c c'
  cell_holds arrays c c' h = cell_by c (extents_of arrays c.array) (subscripts ts (extents_of arrays c.array) c.at) c' refl h
