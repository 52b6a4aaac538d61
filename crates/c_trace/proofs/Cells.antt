-- Which cells a data expression has, at each kind.
use Rattle.std.proofs.Common.{ℕ, ◌≡◌, sym, ap, ◌∙◌, Bool, true, ◌&&◌}
use Rattle.c_tree.specs.declared.index.Cell.{Cell}
use Rattle.c_tree.specs.declared.data.Expr.{Expr, Expr-F, fold_out-Expr, map-Expr, out-Expr}
use Rattle.c_tree.specs.declared.data.Expr.TheVariants.{Const, At, Plus, Minus, Times, outs-Const, outs-At, outs-Plus, outs-Minus, outs-Times}
use Rattle.c_meaning.specs.Scope.{Scope}
use Rattle.c_meaning.specs.Value.{Sight}
use Rattle.c_meaning.proofs.Fitting.{and_right}
use Rattle.c_trace.specs.Lines.{has_cell, has_cells, cells_layer}

pub cells_at : (e : Expr) (d : Expr-F Expr) → out-Expr e ≡ d → (c : Scope) (s : Sight) → has_cells e c s ≡ cells_layer (map-Expr Expr (Scope → Sight → Bool) has_cells d) c s
unfolding has_cells
cells_at e d h c s = ap (λ f. f c s) (fold_out-Expr (Scope → Sight → Bool) cells_layer e) ∙ ap (λ d. cells_layer (map-Expr Expr (Scope → Sight → Bool) has_cells d) c s) h

module _ (c : Scope) (s : Sight) where
  pub has-Const : (n : ℕ) → has_cells (Const n) c s ≡ true
  has-Const n = cells_at (Const n) _ (outs-Const n) c s

  pub has-At : (x : Cell) → has_cells (At x) c s ≡ has_cell x c s
  has-At x = cells_at (At x) _ (outs-At x) c s

  pub has-Plus : (a b : Expr) → has_cells (Plus a b) c s ≡ (has_cells a c s && has_cells b c s)
  has-Plus a b = cells_at (Plus a b) _ (outs-Plus a b) c s

  pub has-Minus : (a b : Expr) → has_cells (Minus a b) c s ≡ (has_cells a c s && has_cells b c s)
  has-Minus a b = cells_at (Minus a b) _ (outs-Minus a b) c s

  pub has-Times : (a b : Expr) → has_cells (Times a b) c s ≡ (has_cells a c s && has_cells b c s)
  has-Times a b = cells_at (Times a b) _ (outs-Times a b) c s

  pub cell-At : (e : Expr) (x : Cell) → e ≡ At x → has_cells e c s ≡ true → has_cell x c s ≡ true
  cell-At e x h k = sym (has-At x) ∙ ap (λ e. has_cells e c s) (sym h) ∙ k

  both-Plus : (e a b : Expr) → e ≡ Plus a b → has_cells e c s ≡ true → (has_cells a c s && has_cells b c s) ≡ true
  both-Plus e a b h k = sym (has-Plus a b) ∙ ap (λ e. has_cells e c s) (sym h) ∙ k

  both-Minus : (e a b : Expr) → e ≡ Minus a b → has_cells e c s ≡ true → (has_cells a c s && has_cells b c s) ≡ true
  both-Minus e a b h k = sym (has-Minus a b) ∙ ap (λ e. has_cells e c s) (sym h) ∙ k

  both-Times : (e a b : Expr) → e ≡ Times a b → has_cells e c s ≡ true → (has_cells a c s && has_cells b c s) ≡ true
  both-Times e a b h k = sym (has-Times a b) ∙ ap (λ e. has_cells e c s) (sym h) ∙ k

  pub right-Plus : (e a b : Expr) → e ≡ Plus a b → has_cells e c s ≡ true → has_cells b c s ≡ true
  right-Plus e a b h k = and_right (has_cells a c s) (has_cells b c s) (both-Plus e a b h k)

  pub right-Minus : (e a b : Expr) → e ≡ Minus a b → has_cells e c s ≡ true → has_cells b c s ≡ true
  right-Minus e a b h k = and_right (has_cells a c s) (has_cells b c s) (both-Minus e a b h k)

  pub right-Times : (e a b : Expr) → e ≡ Times a b → has_cells e c s ≡ true → has_cells b c s ≡ true
  right-Times e a b h k = and_right (has_cells a c s) (has_cells b c s) (both-Times e a b h k)
