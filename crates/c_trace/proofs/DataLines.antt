-- The text of each kind of data expression, whatever texts its cells have.
use Rattle.std.proofs.Common.{ℕ, ◌≡◌, ap, ◌∙◌}
use Rattle.std.specs.Prelude.{decimal}
use Rattle.c_tree.specs.declared.index.Cell.{Cell}
use Rattle.c_tree.specs.declared.data.Expr.{Expr, Expr-F, fold_out-Expr, map-Expr, out-Expr}
use Rattle.c_tree.specs.declared.data.Expr.TheVariants.{Const, At, outs-Const, outs-At}
use Rattle.c_print.specs.Printed.{Text, Printed}
use Rattle.c_print.specs.Data.{data_layer, data_printed}

module _ (cell : Cell → Text) where
  pub data_at : (e : Expr) (d : Expr-F Expr) → out-Expr e ≡ d → data_printed cell e ≡ data_layer cell (map-Expr Expr Printed (data_printed cell) d)
  unfolding data_printed
  data_at e d h = fold_out-Expr Printed (data_layer cell) e ∙ ap (λ d. data_layer cell (map-Expr Expr Printed (data_printed cell) d)) h

  pub data_const : (e : Expr) (n : ℕ) → e ≡ Const n → (data_printed cell e).text ≡ decimal n
  data_const e n h = ap (λ e. (data_printed cell e).text) h ∙ ap (λ p. p.text) (data_at (Const n) _ (outs-Const n))

  pub data_cell : (e : Expr) (c : Cell) → e ≡ At c → (data_printed cell e).text ≡ cell c
  data_cell e c h = ap (λ e. (data_printed cell e).text) h ∙ ap (λ p. p.text) (data_at (At c) _ (outs-At c))
