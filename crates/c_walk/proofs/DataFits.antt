-- What a data expression asks of the scope, at each kind.
use Rattle.std.proofs.Common.{◌≡◌, sym, ap, ◌∙◌, true, ◌&&◌}
use Rattle.c_tree.specs.declared.index.Cell.{Cell}
use Rattle.c_tree.specs.declared.data.Expr.{Expr, Expr-F, fold_out-Expr, map-Expr, out-Expr}
use Rattle.c_tree.specs.declared.data.Expr.TheVariants.{At, Plus, Minus, Times, outs-At, outs-Plus, outs-Minus, outs-Times}
use Rattle.c_meaning.specs.Scope.{Scope, Fit, data_cell_fits}
use Rattle.c_meaning.proofs.Fitting.{and_left, and_right}
use Rattle.c_walk.specs.Ready.{data_fits, data_layer}

fits_at : (e : Expr) (d : Expr-F Expr) → out-Expr e ≡ d → (c : Scope) → data_fits e c ≡ data_layer (map-Expr Expr Fit data_fits d) c
unfolding data_fits
fits_at e d h c = ap (λ f. f c) (fold_out-Expr Fit data_layer e) ∙ ap (λ d. data_layer (map-Expr Expr Fit data_fits d) c) h

module _ (c : Scope) where
  pub cell-At : (e : Expr) (x : Cell) → e ≡ At x → data_fits e c ≡ true → data_cell_fits x c ≡ true
  cell-At e x h k = sym (fits_at (At x) _ (outs-At x) c) ∙ ap (λ e. data_fits e c) (sym h) ∙ k

  both-Plus : (e a b : Expr) → e ≡ Plus a b → data_fits e c ≡ true → (data_fits a c && data_fits b c) ≡ true
  both-Plus e a b h k = sym (fits_at (Plus a b) _ (outs-Plus a b) c) ∙ ap (λ e. data_fits e c) (sym h) ∙ k

  pub left-Plus : (e a b : Expr) → e ≡ Plus a b → data_fits e c ≡ true → data_fits a c ≡ true
  left-Plus e a b h k = and_left (data_fits a c) (data_fits b c) (both-Plus e a b h k)

  pub right-Plus : (e a b : Expr) → e ≡ Plus a b → data_fits e c ≡ true → data_fits b c ≡ true
  right-Plus e a b h k = and_right (data_fits a c) (data_fits b c) (both-Plus e a b h k)

  both-Minus : (e a b : Expr) → e ≡ Minus a b → data_fits e c ≡ true → (data_fits a c && data_fits b c) ≡ true
  both-Minus e a b h k = sym (fits_at (Minus a b) _ (outs-Minus a b) c) ∙ ap (λ e. data_fits e c) (sym h) ∙ k

  pub left-Minus : (e a b : Expr) → e ≡ Minus a b → data_fits e c ≡ true → data_fits a c ≡ true
  left-Minus e a b h k = and_left (data_fits a c) (data_fits b c) (both-Minus e a b h k)

  pub right-Minus : (e a b : Expr) → e ≡ Minus a b → data_fits e c ≡ true → data_fits b c ≡ true
  right-Minus e a b h k = and_right (data_fits a c) (data_fits b c) (both-Minus e a b h k)

  both-Times : (e a b : Expr) → e ≡ Times a b → data_fits e c ≡ true → (data_fits a c && data_fits b c) ≡ true
  both-Times e a b h k = sym (fits_at (Times a b) _ (outs-Times a b) c) ∙ ap (λ e. data_fits e c) (sym h) ∙ k

  pub left-Times : (e a b : Expr) → e ≡ Times a b → data_fits e c ≡ true → data_fits a c ≡ true
  left-Times e a b h k = and_left (data_fits a c) (data_fits b c) (both-Times e a b h k)

  pub right-Times : (e a b : Expr) → e ≡ Times a b → data_fits e c ≡ true → data_fits b c ≡ true
  right-Times e a b h k = and_right (data_fits a c) (data_fits b c) (both-Times e a b h k)
