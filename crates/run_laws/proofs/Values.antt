-- Right sides of the grammar that were judged fit the scope.
use Rattle.std.proofs.Common.{◌≡◌, ℕ, Bool, true, ◌&&◌, List, Option, None, sym, ap, ◌∙◌}
use Rattle.std.specs.Option.{option_or}
use Rattle.c_tokens.specs.declared.token.Token.{Token}
use Rattle.c_tree.specs.declared.index.Cell.{Cell}
use Rattle.c_tree.specs.declared.index.Subscripts.{Subscripts}
use Rattle.c_tree.specs.declared.data.Expr.{Expr, Expr-F, fold_out-Expr, map-Expr, out-Expr}
use Rattle.c_tree.specs.declared.data.Expr.TheVariants.{Const, At, Plus, Minus, Times, outs-Const, outs-At, outs-Plus, outs-Minus, outs-Times}
use Rattle.c_tree.specs.declared.program.Kind.TheVariants as kind
use Rattle.c_grammar.specs.Index.{Word, cell_of, AreSubscripts}
use Rattle.c_grammar.specs.Data.{IsData, IsDataPart, IsDataFactor}
use Rattle.c_grammar.specs.Data as rule
use Rattle.c_judge.specs.declared.uses.Rule.TheVariants.{InScope}
use Rattle.c_judge.specs.Names.{Names, Fault}
use Rattle.c_judge.specs.Uses.{expr_fault, inside, cell_fault, data_cell_fault}
use Rattle.c_judge.proofs.UsesAt.{of_at, of_plus, of_minus, of_times}
use Rattle.c_meaning.specs.Scope.{Scope, Fit, data_cell_fits}
use Rattle.c_walk.specs.Ready.{data_fits, data_layer}
use Rattle.csr_data.proofs.Fits.{none_first, none_second}
use Rattle.run_laws.proofs.Choices.{both}
use Rattle.run_laws.proofs.Agreement.{Agrees}
use Rattle.run_laws.proofs.Indexes.{data_array, subscripts_fits}

fits_at : (e : Expr) (d : Expr-F Expr) → out-Expr e ≡ d → (c : Scope) → data_fits e c ≡ data_layer (map-Expr Expr Fit data_fits d) c
unfolding data_fits
fits_at e d h c = ap (λ (f : Fit). f c) (fold_out-Expr Fit data_layer e) ∙ ap (λ d. data_layer (map-Expr Expr Fit data_fits d) c) h

module _ (names : Names) (c : Scope) (agrees : Agrees names c) where
  abbrev fault : Expr → Fault
  fault e = expr_fault InScope names e

  two : (e l r : Expr) → fault e ≡ option_or (fault l) (fault r) → data_fits e c ≡ (data_fits l c && data_fits r c) → (fault l ≡ None → data_fits l c ≡ true) → (fault r ≡ None → data_fits r c ≡ true)
      → fault e ≡ None → data_fits e c ≡ true
  two e l r f g p q h =
      let none = sym f ∙ h in
      g ∙ both (data_fits l c) (data_fits r c) (p (none_first (fault l) (fault r) none)) (q (none_second (fault l) (fault r) none))

  pub data_cell : {b : ℕ} {ts after : List Token} {s : Subscripts} (x : Word) → AreSubscripts b ts s after → data_cell_fault InScope names (cell_of x s) ≡ None → data_cell_fits (cell_of x s) c ≡ true
  data_cell {s = s} x k h =
      subscripts_fits names c agrees k (none_second (cell_fault InScope names kind.Number x (inside InScope names s).count) (inside InScope names s).fault h) (c.data_arrays x)
      (data_array names c agrees x (inside InScope names s).count (none_first (cell_fault InScope names kind.Number x (inside InScope names s).count) (inside InScope names s).fault h))

  mutual
    pub value_fits : {b : ℕ} {ts after : List Token} {e : Expr} → IsData b ts e after → expr_fault InScope names e ≡ None → data_fits e c ≡ true
    value_fits (rule.first p) h = part_fits p h
    value_fits (rule.sum {left = l} {right = r} i p) h = two (Plus l r) l r (of_plus InScope names l r) (fits_at (Plus l r) _ (outs-Plus l r) c) (value_fits i) (part_fits p) h
    value_fits (rule.difference {left = l} {right = r} i p) h = two (Minus l r) l r (of_minus InScope names l r) (fits_at (Minus l r) _ (outs-Minus l r) c) (value_fits i) (part_fits p) h

    part_fits : {b : ℕ} {ts after : List Token} {e : Expr} → IsDataPart b ts e after → expr_fault InScope names e ≡ None → data_fits e c ≡ true
    part_fits (rule.factor f) h = factor_fits f h
    part_fits (rule.product {left = l} {right = r} i f) h = two (Times l r) l r (of_times InScope names l r) (fits_at (Times l r) _ (outs-Times l r) c) (part_fits i) (factor_fits f) h

    factor_fits : {b : ℕ} {ts after : List Token} {e : Expr} → IsDataFactor b ts e after → expr_fault InScope names e ≡ None → data_fits e c ≡ true
    factor_fits (rule.number {n = n}) h = fits_at (Const n) _ (outs-Const n) c
    factor_fits (rule.cell {x = x} {subscripts = s} k) h = fits_at (At (cell_of x s)) _ (outs-At (cell_of x s)) c ∙ data_cell x k (sym (of_at InScope names (cell_of x s)) ∙ h)
    factor_fits (rule.group i) h = value_fits i h
