-- Padded right sides, by their kinds.
use Rattle.std.proofs.Common.{◌≡◌, ℕ, Bool, true, ◌&&◌, List, sym, ap, ◌∙◌}
use Rattle.std.specs.Prelude.{Option, IsTrue}
use Rattle.std.specs.List.{list_all}
use Rattle.nest_tree.specs.declared.body.Access.{Access}
use Rattle.nest_tree.specs.declared.body.Body.{Body, fold_out-Body, map-Body, out-Body}
use Rattle.nest_tree.specs.declared.body.Body.TheVariants.{Const, At, Plus, Minus, Times, outs-Const, outs-At, outs-Plus, outs-Minus, outs-Times}
use Rattle.nest_tree.specs.declared.body.Body.TheOpen.{Body-F}
use Rattle.pad_layouts.specs.Moved.{padded_access, padded_layer, padded_body, suits, suits_layer, suits_body}

module _ (picks : List (Option ℕ)) (value : List ℕ) (cell : Access) where
  padded_at : (b : Body) (d : Body-F Body) → out-Body b ≡ d → padded_body picks value cell b ≡ padded_layer picks value cell (map-Body Body Body (padded_body picks value cell) d)
  unfolding padded_body
  padded_at b d h = fold_out-Body Body (padded_layer picks value cell) b ∙ ap (λ d. padded_layer picks value cell (map-Body Body Body (padded_body picks value cell) d)) h

  pub padded-Const : (b : Body) (n : ℕ) → b ≡ Const n → padded_body picks value cell b ≡ Const n
  padded-Const b n e = ap (padded_body picks value cell) e ∙ padded_at (Const n) _ (outs-Const n)

  pub padded-At : (b : Body) (a : Access) → b ≡ At a → padded_body picks value cell b ≡ At (padded_access picks value cell a)
  padded-At b a e = ap (padded_body picks value cell) e ∙ padded_at (At a) _ (outs-At a)

  pub padded-Plus : (b x y : Body) → b ≡ Plus x y → padded_body picks value cell b ≡ Plus (padded_body picks value cell x) (padded_body picks value cell y)
  padded-Plus b x y e = ap (padded_body picks value cell) e ∙ padded_at (Plus x y) _ (outs-Plus x y)

  pub padded-Minus : (b x y : Body) → b ≡ Minus x y → padded_body picks value cell b ≡ Minus (padded_body picks value cell x) (padded_body picks value cell y)
  padded-Minus b x y e = ap (padded_body picks value cell) e ∙ padded_at (Minus x y) _ (outs-Minus x y)

  pub padded-Times : (b x y : Body) → b ≡ Times x y → padded_body picks value cell b ≡ Times (padded_body picks value cell x) (padded_body picks value cell y)
  padded-Times b x y e = ap (padded_body picks value cell) e ∙ padded_at (Times x y) _ (outs-Times x y)

module _ (picks : List (Option ℕ)) where
  suits_at : (b : Body) (d : Body-F Body) → out-Body b ≡ d → suits_body picks b ≡ suits_layer picks (map-Body Body Bool (suits_body picks) d)
  unfolding suits_body
  suits_at b d h = fold_out-Body Bool (suits_layer picks) b ∙ ap (λ d. suits_layer picks (map-Body Body Bool (suits_body picks) d)) h

  pub suits-At : (b : Body) (a : Access) → b ≡ At a → IsTrue (suits_body picks b) → IsTrue (list_all (suits picks) a.at)
  suits-At b a e h = sym (suits_at (At a) _ (outs-At a)) ∙ sym (ap (suits_body picks) e) ∙ h

  pub suits_is-Const : (n : ℕ) → suits_body picks (Const n) ≡ true
  suits_is-Const n = suits_at (Const n) _ (outs-Const n)

  pub suits_is-At : (a : Access) → suits_body picks (At a) ≡ list_all (suits picks) a.at
  suits_is-At a = suits_at (At a) _ (outs-At a)

  pub suits_is-Plus : (x y : Body) → suits_body picks (Plus x y) ≡ (suits_body picks x && suits_body picks y)
  suits_is-Plus x y = suits_at (Plus x y) _ (outs-Plus x y)

  pub suits_is-Minus : (x y : Body) → suits_body picks (Minus x y) ≡ (suits_body picks x && suits_body picks y)
  suits_is-Minus x y = suits_at (Minus x y) _ (outs-Minus x y)

  pub suits_is-Times : (x y : Body) → suits_body picks (Times x y) ≡ (suits_body picks x && suits_body picks y)
  suits_is-Times x y = suits_at (Times x y) _ (outs-Times x y)
