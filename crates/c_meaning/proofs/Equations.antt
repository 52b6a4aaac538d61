-- The definitions at each kind of index expression.
use Rattle.std.proofs.Common.{ℕ, ◌≡◌, ℤ, pos, int_le, nat_eq, true, ◌&&◌, ap, ◌∙◌, Ok}
use Rattle.c_tree.specs.declared.index.Index.{Index, Index-F, fold_out-Index, map-Index, out-Index}
use Rattle.c_tree.specs.declared.index.Index.TheVariants.{Const, Var, At, Neg, Plus, Minus, Times, Min, Max, Floor, Ceil, outs-Const, outs-Var, outs-At, outs-Neg, outs-Plus, outs-Minus, outs-Times, outs-Min, outs-Max, outs-Floor, outs-Ceil}
use Rattle.c_tree.specs.declared.index.Subscripts.{Subscripts, Subscripts-F, map-Subscripts, fold_out-Subscripts, out-Subscripts}
use Rattle.c_tree.specs.declared.index.Subscripts.TheVariants.{One, Two, Three, outs-One, outs-Two, outs-Three}
use Rattle.c_tree.specs.declared.index.Cell.{Cell, fold_out-Cell}
use Rattle.c_meaning.specs.Names.{Name}
use Rattle.c_meaning.specs.Weighed.{plain, negated, sum_of, difference_of, multiple_of, lesser_of, greater_of, floor_of, ceil_of}
use Rattle.c_meaning.specs.Value.{Sight, ◌>>=◌, Meaning, SubscriptsMeaning, CellMeaning, measure, subscripts_of, three_answers, cell_value, value_of, index_layer, subscripts_layer, cell_layer, on_one, on_two, plain_answer, held, cell_seen}
use Rattle.c_meaning.specs.Scope.{Scope, Fit, SubscriptsFit, fits, subscripts_fit, cell_fits, fit_layer, subscripts_fit_layer, cell_fit_layer}

pub measure_at : (e : Index) (d : Index-F Index Subscripts Cell) → out-Index e ≡ d → (s : Sight) → measure e s ≡ index_layer (map-Index Index Subscripts Cell Meaning SubscriptsMeaning CellMeaning measure subscripts_of cell_value d) s
unfolding measure subscripts_of cell_value
measure_at e d h s =
    ap (λ f. f s) (fold_out-Index Meaning SubscriptsMeaning CellMeaning index_layer subscripts_layer cell_layer e)
    ∙ ap (λ d. index_layer (map-Index Index Subscripts Cell Meaning SubscriptsMeaning CellMeaning measure subscripts_of cell_value d) s) h

pub subscripts_at : (e : Subscripts) (d : Subscripts-F Index Subscripts Cell) → out-Subscripts e ≡ d → (s : Sight) → subscripts_of e s ≡ subscripts_layer (map-Subscripts Index Subscripts Cell Meaning SubscriptsMeaning CellMeaning measure subscripts_of cell_value d) s
unfolding measure subscripts_of cell_value
subscripts_at e d h s =
    ap (λ f. f s) (fold_out-Subscripts Meaning SubscriptsMeaning CellMeaning index_layer subscripts_layer cell_layer e)
    ∙ ap (λ d. subscripts_layer (map-Subscripts Index Subscripts Cell Meaning SubscriptsMeaning CellMeaning measure subscripts_of cell_value d) s) h

pub cell_value_is : (c : Cell) (s : Sight) → cell_value c s ≡ (subscripts_of c.at s >>= (λ at. held c.array (cell_seen s c.array at)))
unfolding measure subscripts_of cell_value
cell_value_is c s = ap (λ f. f s) (fold_out-Cell Meaning SubscriptsMeaning CellMeaning index_layer subscripts_layer cell_layer c)

pub fits_at : (e : Index) (d : Index-F Index Subscripts Cell) → out-Index e ≡ d → (c : Scope) → fits e c ≡ fit_layer (map-Index Index Subscripts Cell Fit SubscriptsFit Fit fits subscripts_fit cell_fits d) c
unfolding fits subscripts_fit cell_fits
fits_at e d h c =
    ap (λ f. f c) (fold_out-Index Fit SubscriptsFit Fit fit_layer subscripts_fit_layer cell_fit_layer e)
    ∙ ap (λ d. fit_layer (map-Index Index Subscripts Cell Fit SubscriptsFit Fit fits subscripts_fit cell_fits d) c) h

pub subscripts_fit_at : (e : Subscripts) (d : Subscripts-F Index Subscripts Cell) → out-Subscripts e ≡ d → (c : Scope) (n : ℕ) → subscripts_fit e c n ≡ subscripts_fit_layer (map-Subscripts Index Subscripts Cell Fit SubscriptsFit Fit fits subscripts_fit cell_fits d) c n
unfolding fits subscripts_fit cell_fits
subscripts_fit_at e d h c n =
    ap (λ f. f c n) (fold_out-Subscripts Fit SubscriptsFit Fit fit_layer subscripts_fit_layer cell_fit_layer e)
    ∙ ap (λ d. subscripts_fit_layer (map-Subscripts Index Subscripts Cell Fit SubscriptsFit Fit fits subscripts_fit cell_fits d) c n) h

pub cell_fits_is : (e : Cell) (c : Scope) → cell_fits e c ≡ subscripts_fit e.at c (c.index_arrays e.array)
unfolding fits subscripts_fit cell_fits
cell_fits_is e c = ap (λ f. f c) (fold_out-Cell Fit SubscriptsFit Fit fit_layer subscripts_fit_layer cell_fit_layer e)

pub measure-Const : (n : ℤ) (s : Sight) → measure (Const n) s ≡ Ok (plain n)
measure-Const n s = measure_at (Const n) _ (outs-Const n) s

pub measure-Var : (x : Name) (s : Sight) → measure (Var x) s ≡ Ok (plain (s.value x))
measure-Var x s = measure_at (Var x) _ (outs-Var x) s

pub measure-At : (e : Cell) (s : Sight) → measure (At e) s ≡ plain_answer (cell_value e s)
measure-At e s = measure_at (At e) _ (outs-At e) s

pub measure-Neg : (a : Index) (s : Sight) → measure (Neg a) s ≡ on_one negated (measure a s)
measure-Neg a s = measure_at (Neg a) _ (outs-Neg a) s

pub measure-Plus : (a b : Index) (s : Sight) → measure (Plus a b) s ≡ on_two sum_of (measure a s) (measure b s)
measure-Plus a b s = measure_at (Plus a b) _ (outs-Plus a b) s

pub measure-Minus : (a b : Index) (s : Sight) → measure (Minus a b) s ≡ on_two difference_of (measure a s) (measure b s)
measure-Minus a b s = measure_at (Minus a b) _ (outs-Minus a b) s

pub measure-Times : (n : ℤ) (a : Index) (s : Sight) → measure (Times n a) s ≡ on_one (multiple_of n) (measure a s)
measure-Times n a s = measure_at (Times n a) _ (outs-Times n a) s

pub measure-Min : (a b : Index) (s : Sight) → measure (Min a b) s ≡ on_two lesser_of (measure a s) (measure b s)
measure-Min a b s = measure_at (Min a b) _ (outs-Min a b) s

pub measure-Max : (a b : Index) (s : Sight) → measure (Max a b) s ≡ on_two greater_of (measure a s) (measure b s)
measure-Max a b s = measure_at (Max a b) _ (outs-Max a b) s

pub measure-Floor : (a : Index) (d : ℤ) (s : Sight) → measure (Floor a d) s ≡ on_one (λ x. floor_of x d) (measure a s)
measure-Floor a d s = measure_at (Floor a d) _ (outs-Floor a d) s

pub measure-Ceil : (a : Index) (d : ℤ) (s : Sight) → measure (Ceil a d) s ≡ on_one (λ x. ceil_of x d) (measure a s)
measure-Ceil a d s = measure_at (Ceil a d) _ (outs-Ceil a d) s

pub fits-Const : (n : ℤ) (c : Scope) → fits (Const n) c ≡ true
fits-Const n c = fits_at (Const n) _ (outs-Const n) c

pub fits-Var : (x : Name) (c : Scope) → fits (Var x) c ≡ c.numbers x
fits-Var x c = fits_at (Var x) _ (outs-Var x) c

pub fits-At : (e : Cell) (c : Scope) → fits (At e) c ≡ cell_fits e c
fits-At e c = fits_at (At e) _ (outs-At e) c

pub fits-Neg : (a : Index) (c : Scope) → fits (Neg a) c ≡ fits a c
fits-Neg a c = fits_at (Neg a) _ (outs-Neg a) c

pub fits-Plus : (a b : Index) (c : Scope) → fits (Plus a b) c ≡ (fits a c && fits b c)
fits-Plus a b c = fits_at (Plus a b) _ (outs-Plus a b) c

pub fits-Minus : (a b : Index) (c : Scope) → fits (Minus a b) c ≡ (fits a c && fits b c)
fits-Minus a b c = fits_at (Minus a b) _ (outs-Minus a b) c

pub fits-Times : (n : ℤ) (a : Index) (c : Scope) → fits (Times n a) c ≡ fits a c
fits-Times n a c = fits_at (Times n a) _ (outs-Times n a) c

pub fits-Min : (a b : Index) (c : Scope) → fits (Min a b) c ≡ (fits a c && fits b c)
fits-Min a b c = fits_at (Min a b) _ (outs-Min a b) c

pub fits-Max : (a b : Index) (c : Scope) → fits (Max a b) c ≡ (fits a c && fits b c)
fits-Max a b c = fits_at (Max a b) _ (outs-Max a b) c

pub fits-Floor : (a : Index) (d : ℤ) (c : Scope) → fits (Floor a d) c ≡ (int_le (pos 1) d && fits a c)
fits-Floor a d c = fits_at (Floor a d) _ (outs-Floor a d) c

pub fits-Ceil : (a : Index) (d : ℤ) (c : Scope) → fits (Ceil a d) c ≡ (int_le (pos 1) d && fits a c)
fits-Ceil a d c = fits_at (Ceil a d) _ (outs-Ceil a d) c

pub subscripts-One : (a : Index) (s : Sight) → subscripts_of (One a) s ≡ three_answers (value_of a s) (Ok (pos 0)) (Ok (pos 0))
subscripts-One a s = subscripts_at (One a) _ (outs-One a) s

pub subscripts-Two : (a b : Index) (s : Sight) → subscripts_of (Two a b) s ≡ three_answers (value_of a s) (value_of b s) (Ok (pos 0))
subscripts-Two a b s = subscripts_at (Two a b) _ (outs-Two a b) s

pub subscripts-Three : (a b c : Index) (s : Sight) → subscripts_of (Three a b c) s ≡ three_answers (value_of a s) (value_of b s) (value_of c s)
subscripts-Three a b c s = subscripts_at (Three a b c) _ (outs-Three a b c) s

pub subscripts_fit-One : (a : Index) (c : Scope) (n : ℕ) → subscripts_fit (One a) c n ≡ (nat_eq n 1 && fits a c)
subscripts_fit-One a c n = subscripts_fit_at (One a) _ (outs-One a) c n

pub subscripts_fit-Two : (a b : Index) (c : Scope) (n : ℕ) → subscripts_fit (Two a b) c n ≡ (nat_eq n 2 && (fits a c && fits b c))
subscripts_fit-Two a b c n = subscripts_fit_at (Two a b) _ (outs-Two a b) c n

pub subscripts_fit-Three : (a b e : Index) (c : Scope) (n : ℕ) → subscripts_fit (Three a b e) c n ≡ (nat_eq n 3 && (fits a c && (fits b c && fits e c)))
subscripts_fit-Three a b e c n = subscripts_fit_at (Three a b e) _ (outs-Three a b e) c n

pub ruleset values = (measure-Const, measure-Var, measure-At, measure-Neg, measure-Plus, measure-Minus, measure-Times, measure-Min, measure-Max, measure-Floor, measure-Ceil, cell_value_is, subscripts-One, subscripts-Two, subscripts-Three)

pub ruleset fitting = (fits-Const, fits-Var, fits-At, fits-Neg, fits-Plus, fits-Minus, fits-Times, fits-Min, fits-Max, fits-Floor, fits-Ceil, cell_fits_is, subscripts_fit-One, subscripts_fit-Two, subscripts_fit-Three)
