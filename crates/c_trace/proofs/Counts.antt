-- How many subscripts there are.
use Rattle.std.proofs.Common.{ℕ, ◌≡◌, refl, sym, ap, ◌∙◌, nat_eq, Bool, true, ◌&&◌, arith}
use Rattle.c_tree.specs.declared.index.Index.{Index, fold-Index}
use Rattle.c_tree.specs.declared.index.Index.TheOpen.{One as OneOf, Two as TwoOf, Three as ThreeOf}
use Rattle.c_tree.specs.declared.index.Cell.{Cell, fold-Cell}
use Rattle.c_tree.specs.declared.index.Subscripts.{Subscripts, Subscripts-F, out-Subscripts, map-Subscripts, fold_out-Subscripts}
use Rattle.c_tree.specs.declared.index.Subscripts.TheVariants.{One, Two, Three, outs-One, outs-Two, outs-Three}
use Rattle.c_meaning.specs.Scope.{Scope, fits, subscripts_fit}
use Rattle.c_meaning.proofs.Equations.{subscripts_fit_at}
use Rattle.c_trace.specs.Lines.{count_of, count_layer, no_index, no_cell}

index_unit : Index → Unit {0}
index_unit = fold-Index (Unit {0}) ℕ (Unit {0}) no_index count_layer no_cell

cell_unit : Cell → Unit {0}
cell_unit = fold-Cell (Unit {0}) ℕ (Unit {0}) no_index count_layer no_cell

counted : (e : Subscripts) (d : Subscripts-F Index Subscripts Cell) → out-Subscripts e ≡ d → count_of e ≡ count_layer (map-Subscripts Index Subscripts Cell (Unit {0}) ℕ (Unit {0}) index_unit count_of cell_unit d)
unfolding count_of index_unit cell_unit
counted e d h =
    fold_out-Subscripts (Unit {0}) ℕ (Unit {0}) no_index count_layer no_cell e
    ∙ ap (λ d. count_layer (map-Subscripts Index Subscripts Cell (Unit {0}) ℕ (Unit {0}) index_unit count_of cell_unit d)) h

pub count-One : (e : Subscripts) (a : Index) → e ≡ One a → count_of e ≡ 1
count-One e a h = ap count_of h ∙ counted (One a) _ (outs-One a)

pub count-Two : (e : Subscripts) (a b : Index) → e ≡ Two a b → count_of e ≡ 2
count-Two e a b h = ap count_of h ∙ counted (Two a b) _ (outs-Two a b)

pub count-Three : (e : Subscripts) (a b c : Index) → e ≡ Three a b c → count_of e ≡ 3
count-Three e a b c h = ap count_of h ∙ counted (Three a b c) _ (outs-Three a b c)

one_of : (n : ℕ) (p : Bool) → (nat_eq n 1 && p) ≡ true → 1 ≡ n
one_of n p h = grind arith

two_of : (n : ℕ) (p : Bool) → (nat_eq n 2 && p) ≡ true → 2 ≡ n
two_of n p h = grind arith

three_of : (n : ℕ) (p : Bool) → (nat_eq n 3 && p) ≡ true → 3 ≡ n
three_of n p h = grind arith

count_by : (e : Subscripts) (k : Scope) (n : ℕ) (d : Subscripts-F Index Subscripts Cell) → out-Subscripts e ≡ d → subscripts_fit e k n ≡ true → count_of e ≡ n
count_by e k n (OneOf a) d h = counted e (OneOf a) d ∙ one_of n (fits a k) (sym (subscripts_fit_at e (OneOf a) d k n) ∙ h)
count_by e k n (TwoOf a b) d h = counted e (TwoOf a b) d ∙ two_of n (fits a k && fits b k) (sym (subscripts_fit_at e (TwoOf a b) d k n) ∙ h)
count_by e k n (ThreeOf a b f) d h = counted e (ThreeOf a b f) d ∙ three_of n (fits a k && (fits b k && fits f k)) (sym (subscripts_fit_at e (ThreeOf a b f) d k n) ∙ h)

-- a cell that fits has a subscript for each extent
pub count_is : (e : Subscripts) (k : Scope) (n : ℕ) → subscripts_fit e k n ≡ true → count_of e ≡ n
count_is e k n h = count_by e k n (out-Subscripts e) refl h
