-- The text of each kind of index expression.
use Rattle.std.proofs.Common.{◌≡◌, ℤ, ◌++◌, ap, ◌∙◌}
use Rattle.std.specs.Prelude.{codes}
use Rattle.std.specs.Fmt.{signed_decimal}
use Rattle.c_tree.specs.declared.index.Index.{Index, Index-F, fold_out-Index, map-Index, out-Index}
use Rattle.c_tree.specs.declared.index.Index.TheVariants.{Const, Var, At, Neg, Plus, Minus, Times, Min, Max, Floor, Ceil, outs-Const, outs-Var, outs-At, outs-Neg, outs-Plus, outs-Minus, outs-Times, outs-Min, outs-Max, outs-Floor, outs-Ceil}
use Rattle.c_tree.specs.declared.index.Subscripts.{Subscripts, Subscripts-F, map-Subscripts, fold_out-Subscripts, out-Subscripts}
use Rattle.c_tree.specs.declared.index.Subscripts.TheVariants.{One, Two, Three, outs-One, outs-Two, outs-Three}
use Rattle.c_tree.specs.declared.index.Cell.{Cell, fold_out-Cell}
use Rattle.c_print.specs.Printed.{Text, Printed, as_part, as_factor, bracketed}
use Rattle.c_print.specs.Index.{index_layer, subscripts_layer, cell_layer, printed, subscripts_text, cell_text}

pub printed_at : (e : Index) (d : Index-F Index Subscripts Cell) → out-Index e ≡ d → printed e ≡ index_layer (map-Index Index Subscripts Cell Printed Text Text printed subscripts_text cell_text d)
unfolding printed subscripts_text cell_text
printed_at e d h =
    fold_out-Index Printed Text Text index_layer subscripts_layer cell_layer e
    ∙ ap (λ d. index_layer (map-Index Index Subscripts Cell Printed Text Text printed subscripts_text cell_text d)) h

pub subscripts_at : (e : Subscripts) (d : Subscripts-F Index Subscripts Cell) → out-Subscripts e ≡ d → subscripts_text e ≡ subscripts_layer (map-Subscripts Index Subscripts Cell Printed Text Text printed subscripts_text cell_text d)
unfolding printed subscripts_text cell_text
subscripts_at e d h =
    fold_out-Subscripts Printed Text Text index_layer subscripts_layer cell_layer e
    ∙ ap (λ d. subscripts_layer (map-Subscripts Index Subscripts Cell Printed Text Text printed subscripts_text cell_text d)) h

pub cell_is : (c : Cell) → cell_text c ≡ c.array ++ subscripts_text c.at
unfolding printed subscripts_text cell_text
cell_is c = fold_out-Cell Printed Text Text index_layer subscripts_layer cell_layer c

pub subscripts_one : (a : Index) → subscripts_text (One a) ≡ bracketed (printed a)
subscripts_one a = subscripts_at (One a) _ (outs-One a)

pub subscripts_two : (a b : Index) → subscripts_text (Two a b) ≡ bracketed (printed a) ++ bracketed (printed b)
subscripts_two a b = subscripts_at (Two a b) _ (outs-Two a b)

pub subscripts_three : (a b c : Index) → subscripts_text (Three a b c) ≡ bracketed (printed a) ++ bracketed (printed b) ++ bracketed (printed c)
subscripts_three a b c = subscripts_at (Three a b c) _ (outs-Three a b c)

pub text_const : (n : ℤ) → (printed (Const n)).text ≡ signed_decimal n
text_const n = ap (λ p. p.text) (printed_at (Const n) _ (outs-Const n))

pub text_var : (x : Text) → (printed (Var x)).text ≡ x
text_var x = ap (λ p. p.text) (printed_at (Var x) _ (outs-Var x))

pub text_at : (c : Cell) → (printed (At c)).text ≡ cell_text c
text_at c = ap (λ p. p.text) (printed_at (At c) _ (outs-At c))

pub text_neg : (a : Index) → (printed (Neg a)).text ≡ codes "-" ++ (as_part (printed a)).text
text_neg a = ap (λ p. p.text) (printed_at (Neg a) _ (outs-Neg a))

pub text_plus : (a b : Index) → (printed (Plus a b)).text ≡ (printed a).text ++ codes "+" ++ (as_part (printed b)).text
text_plus a b = ap (λ p. p.text) (printed_at (Plus a b) _ (outs-Plus a b))

pub text_minus : (a b : Index) → (printed (Minus a b)).text ≡ (printed a).text ++ codes "-" ++ (as_part (printed b)).text
text_minus a b = ap (λ p. p.text) (printed_at (Minus a b) _ (outs-Minus a b))

pub text_times : (n : ℤ) (a : Index) → (printed (Times n a)).text ≡ signed_decimal n ++ codes "*" ++ (as_factor (printed a)).text
text_times n a = ap (λ p. p.text) (printed_at (Times n a) _ (outs-Times n a))

pub text_min : (a b : Index) → (printed (Min a b)).text ≡ codes "min" ++ codes "(" ++ (printed a).text ++ codes ", " ++ (printed b).text ++ codes ")"
text_min a b = ap (λ p. p.text) (printed_at (Min a b) _ (outs-Min a b))

pub text_max : (a b : Index) → (printed (Max a b)).text ≡ codes "max" ++ codes "(" ++ (printed a).text ++ codes ", " ++ (printed b).text ++ codes ")"
text_max a b = ap (λ p. p.text) (printed_at (Max a b) _ (outs-Max a b))

pub text_floor : (a : Index) (n : ℤ) → (printed (Floor a n)).text ≡ codes "floord" ++ codes "(" ++ (printed a).text ++ codes ", " ++ signed_decimal n ++ codes ")"
text_floor a n = ap (λ p. p.text) (printed_at (Floor a n) _ (outs-Floor a n))

pub text_ceil : (a : Index) (n : ℤ) → (printed (Ceil a n)).text ≡ codes "ceild" ++ codes "(" ++ (printed a).text ++ codes ", " ++ signed_decimal n ++ codes ")"
text_ceil a n = ap (λ p. p.text) (printed_at (Ceil a n) _ (outs-Ceil a n))
