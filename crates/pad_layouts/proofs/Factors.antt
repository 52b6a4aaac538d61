-- What right sides are as factors, by their kinds.
use Rattle.std.proofs.Common.{◌≡◌, ℕ, List, sym, ap, ◌∙◌}
use Rattle.std.specs.Prelude.{Option}
use Rattle.nest_tree.specs.declared.body.Access.{Access}
use Rattle.nest_tree.specs.declared.body.Body.{Body, fold_out-Body, map-Body, out-Body}
use Rattle.nest_tree.specs.declared.body.Body.TheVariants.{Const, At, Plus, Minus, Times, outs-Const, outs-At, outs-Plus, outs-Minus, outs-Times}
use Rattle.nest_tree.specs.declared.body.Body.TheOpen.{Body-F}
use Rattle.pad_layouts.specs.declared.product.Factors.{Factors}
use Rattle.pad_layouts.specs.declared.product.Factors.TheVariants.{Clean}
use Rattle.pad_layouts.specs.declared.product.Transfer.{Transfer}
use Rattle.pad_layouts.specs.Products.{cell_factors, sum_factors, product_factors, transferred, factors_layer, factors_of}

module _ (value : List ℕ) (entry : ℕ) (allowed : Option ℕ) where
  factors_at : (b : Body) (d : Body-F Body) → out-Body b ≡ d → factors_of value entry allowed b ≡ factors_layer value entry allowed (map-Body Body Factors (factors_of value entry allowed) d)
  unfolding factors_of
  factors_at b d h = fold_out-Body Factors (factors_layer value entry allowed) b ∙ ap (λ d. factors_layer value entry allowed (map-Body Body Factors (factors_of value entry allowed) d)) h

  pub factors-Const : (b : Body) (n : ℕ) → b ≡ Const n → factors_of value entry allowed b ≡ Clean
  factors-Const b n e = ap (factors_of value entry allowed) e ∙ factors_at (Const n) _ (outs-Const n)

  pub factors-At : (b : Body) (a : Access) → b ≡ At a → factors_of value entry allowed b ≡ cell_factors value entry allowed a
  factors-At b a e = ap (factors_of value entry allowed) e ∙ factors_at (At a) _ (outs-At a)

  pub factors-Plus : (b x y : Body) → b ≡ Plus x y → factors_of value entry allowed b ≡ sum_factors (factors_of value entry allowed x) (factors_of value entry allowed y)
  factors-Plus b x y e = ap (factors_of value entry allowed) e ∙ factors_at (Plus x y) _ (outs-Plus x y)

  pub factors-Minus : (b x y : Body) → b ≡ Minus x y → factors_of value entry allowed b ≡ sum_factors (factors_of value entry allowed x) (factors_of value entry allowed y)
  factors-Minus b x y e = ap (factors_of value entry allowed) e ∙ factors_at (Minus x y) _ (outs-Minus x y)

  pub factors-Times : (b x y : Body) → b ≡ Times x y → factors_of value entry allowed b ≡ product_factors (factors_of value entry allowed x) (factors_of value entry allowed y)
  factors-Times b x y e = ap (factors_of value entry allowed) e ∙ factors_at (Times x y) _ (outs-Times x y)

  -- one step down the left part x, where q is what the right part y is
  pub steps : (f : Factors → Factors → Factors) (rest x y x' y' : Body) (t new : Transfer) (q w : Factors)
      → factors_of value entry allowed rest ≡ f (factors_of value entry allowed x) (factors_of value entry allowed y) → x' ≡ x → y' ≡ y → q ≡ factors_of value entry allowed y'
      → ((l : Factors) → transferred new l ≡ transferred t (f l q)) → transferred t (factors_of value entry allowed rest) ≡ w → transferred new (factors_of value entry allowed x') ≡ w
  steps f rest x y x' y' t new q w e xs ys qs law h =
      let right : q ≡ factors_of value entry allowed y = qs ∙ ap (factors_of value entry allowed) ys in
      let parts : f (factors_of value entry allowed x) q ≡ factors_of value entry allowed rest = ap (f (factors_of value entry allowed x)) right ∙ sym e in
      ap (λ b. transferred new (factors_of value entry allowed b)) xs ∙ (law (factors_of value entry allowed x) ∙ (ap (transferred t) parts ∙ h))

  -- at last, the left part has no operation
  pub ends : (rest : Body) (t : Transfer) (last r w : Factors) → factors_of value entry allowed rest ≡ last → transferred t (factors_of value entry allowed rest) ≡ w → r ≡ transferred t last → r ≡ w
  ends rest t last r w e h is = is ∙ (sym (ap (transferred t) e) ∙ h)
