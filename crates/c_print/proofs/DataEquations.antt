-- The text of each kind of data expression, where cells have the printer's texts.
use Rattle.std.proofs.Common.{ℕ, ◌≡◌, ◌++◌, ap, ◌∙◌}
use Rattle.std.specs.Prelude.{codes, decimal}
use Rattle.c_tree.specs.declared.index.Cell.{Cell}
use Rattle.c_tree.specs.declared.data.Expr.{Expr, Expr-F, fold_out-Expr, map-Expr, out-Expr}
use Rattle.c_tree.specs.declared.data.Expr.TheVariants.{Const, At, Plus, Minus, Times, outs-Const, outs-At, outs-Plus, outs-Minus, outs-Times}
use Rattle.c_print.specs.Printed.{Printed, as_part, as_factor}
use Rattle.c_print.specs.Index.{cell_text}
use Rattle.c_print.specs.Data.{data_layer, data_printed}

pub data_at : (e : Expr) (d : Expr-F Expr) → out-Expr e ≡ d → data_printed cell_text e ≡ data_layer cell_text (map-Expr Expr Printed (data_printed cell_text) d)
unfolding data_printed
data_at e d h =
    fold_out-Expr Printed (data_layer cell_text) e ∙ ap (λ d. data_layer cell_text (map-Expr Expr Printed (data_printed cell_text) d)) h

pub data_const : (n : ℕ) → (data_printed cell_text (Const n)).text ≡ decimal n
data_const n = ap (λ p. p.text) (data_at (Const n) _ (outs-Const n))

pub data_cell : (c : Cell) → (data_printed cell_text (At c)).text ≡ cell_text c
data_cell c = ap (λ p. p.text) (data_at (At c) _ (outs-At c))

pub data_plus : (a b : Expr) → (data_printed cell_text (Plus a b)).text ≡ (data_printed cell_text a).text ++ codes " + " ++ (as_part (data_printed cell_text b)).text
data_plus a b = ap (λ p. p.text) (data_at (Plus a b) _ (outs-Plus a b))

pub data_minus : (a b : Expr) → (data_printed cell_text (Minus a b)).text ≡ (data_printed cell_text a).text ++ codes " - " ++ (as_part (data_printed cell_text b)).text
data_minus a b = ap (λ p. p.text) (data_at (Minus a b) _ (outs-Minus a b))

pub data_times : (a b : Expr) → (data_printed cell_text (Times a b)).text ≡ (as_part (data_printed cell_text a)).text ++ codes " * " ++ (as_factor (data_printed cell_text b)).text
data_times a b = ap (λ p. p.text) (data_at (Times a b) _ (outs-Times a b))
