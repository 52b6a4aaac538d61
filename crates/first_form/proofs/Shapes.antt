-- An expression that is a size is the expression of this size.
use Rattle.std.specs.Prelude.{◌≡◌, ℤ, pos, negsuc, Bool, true, false, nat_le, ◌^◌, if◌then◌else◌, is_some, List, Option, Some, None}
use Rattle.std.proofs.Common.{sym, ◌∙◌, ap}
use Rattle.c_tree.specs.declared.index.Index.{Index, Index-F, out-Index, roll-Index}
use Rattle.c_tree.specs.declared.index.Index.TheViews.{roll-out-Index}
use Rattle.c_tree.specs.declared.index.Index.TheVariants.{rolls-Var, rolls-Const}
use Rattle.c_tree.specs.declared.index.Index.TheOpen as layer
use Rattle.c_tree.specs.declared.index.Cell.{Cell}
use Rattle.c_tree.specs.declared.index.Subscripts.{Subscripts}
use Rattle.first_form.specs.declared.size.Size.{Size}
use Rattle.first_form.specs.declared.size.Size.TheVariants.{Param, Number}
use Rattle.first_form.specs.Sizes.{Name, has_name, number_size, size_layer, size_of, is_size, expression_of}

some_is : {A : Type 0} (x y : A) → Some x ≡ Some y → x ≡ y
some_is x y h = cc

choice : {A : Type 0} (b : Bool) (x y : A) → (if b then Some x else None) ≡ Some y → x ≡ y
choice true x y h = some_is x y h
choice false x y h = absurd cc

number : (n : ℤ) (s : Size) → number_size n ≡ Some s → expression_of s ≡ roll-Index (layer.Const n)
number (pos n) s h = ap expression_of (sym (choice (nat_le n (2 ^ 31)) (Number (pos n)) s h)) ∙ sym (rolls-Const (pos n))
number (negsuc n) s h = absurd cc

by_layer : (params : List Name) (d : Index-F Index Subscripts Cell) (s : Size) → size_layer params d ≡ Some s → expression_of s ≡ roll-Index d
by_layer params (layer.Var x) s h = ap expression_of (sym (choice (has_name params x) (Param x) s h)) ∙ sym (rolls-Var x)
by_layer params (layer.Const n) s h = number n s h
by_layer params (layer.At c) s h = absurd cc
by_layer params (layer.Neg e) s h = absurd cc
by_layer params (layer.Plus e f) s h = absurd cc
by_layer params (layer.Minus e f) s h = absurd cc
by_layer params (layer.Times n e) s h = absurd cc
by_layer params (layer.Min e f) s h = absurd cc
by_layer params (layer.Max e f) s h = absurd cc
by_layer params (layer.Floor e n) s h = absurd cc
by_layer params (layer.Ceil e n) s h = absurd cc

pub size-expression : (params : List Name) (e : Index) (s : Size) → size_of params e ≡ Some s → expression_of s ≡ e
size-expression params e s h = by_layer params (out-Index e) s h ∙ roll-out-Index e

pub copied_size : (params : List Name) (e : Index) (s : Size) → size_of params e ≡ Some s → Some (expression_of s) ≡ (if is_size params e then Some e else None)
copied_size params e s h = ap Some (size-expression params e s h) ∙ ap (λ (o : Option Size). if is_some o then Some e else None) (sym h)
