-- Padded right sides along their chains.
use Rattle.std.proofs.Common.{◌≡◌, ℕ, Bool, ◌&&◌, List, [], ◌∷◌, ◌++◌, refl, sym, ap, ◌∙◌}
use Rattle.std.specs.Prelude.{Option, IsTrue}
use Rattle.std.specs.List.{list_all}
use Rattle.nest_tree.specs.declared.body.Access.{Access}
use Rattle.nest_tree.specs.declared.body.Body.{Body}
use Rattle.nest_tree.specs.declared.body.Body.TheVariants.{Plus, Minus, Times}
use Rattle.nest_core.specs.declared.chain.Operation.{Operation}
use Rattle.nest_core.specs.declared.chain.Operation.TheVariants as operation
use Rattle.nest_core.specs.declared.chain.Link.{Link}
use Rattle.nest_core.specs.Chains.{applied, linked}
use Rattle.nest_core.proofs.Chains.{along, along_more, along_linked, of_parts}
use Rattle.pad_layouts.specs.Moved.{padded_body, suits_body}
use Rattle.pad_layouts.proofs.Padding.{padded-Plus, padded-Minus, padded-Times, suits_is-Plus, suits_is-Minus, suits_is-Times}

module _ (picks : List (Option ℕ)) (value : List ℕ) (cell : Access) where
  law : (o : Operation) (a b : Body) → padded_body picks value cell (applied o a b) ≡ applied o (padded_body picks value cell a) (padded_body picks value cell b)
  law operation.Plus a b = padded-Plus picks value cell (Plus a b) a b refl
  law operation.Minus a b = padded-Minus picks value cell (Minus a b) a b refl
  law operation.Times a b = padded-Times picks value cell (Times a b) a b refl

  -- a padded right side with the padded right sides of what is joined to it
  unfoldable pub padded_along : List Link → Body → Body
  padded_along = along applied (padded_body picks value cell)

  pub padded_init : (first body whole : Body) (ls : List Link) → linked first ls ≡ body → whole ≡ padded_body picks value cell first → padded_along ls whole ≡ padded_body picks value cell body
  unfolding padded_along
  padded_init first body whole ls e h =
      ap (along applied (padded_body picks value cell) ls) h ∙ (sym (along_linked applied (padded_body picks value cell) law first ls) ∙ ap (padded_body picks value cell) e)

  pub padded_step : (links ls : List Link) (l : Link) (whole right new w : Body) → links ≡ ls ++ l ∷ [] → right ≡ padded_body picks value cell l.right.now → new ≡ applied l.operation whole right → padded_along links whole ≡ w → padded_along ls new ≡ w
  unfolding padded_along
  padded_step links ls l whole right new w e g k h =
      let joined : new ≡ applied l.operation whole (padded_body picks value cell l.right.now) = k ∙ ap (applied l.operation whole) g in
      let more : along applied (padded_body picks value cell) links whole ≡ along applied (padded_body picks value cell) ls (applied l.operation whole (padded_body picks value cell l.right.now)) =
      ap (λ ks. along applied (padded_body picks value cell) ks whole) e ∙ along_more applied (padded_body picks value cell) ls l whole in
      ap (along applied (padded_body picks value cell) ls) joined ∙ (sym more ∙ h)

  pub padded_end : (links : List Link) (whole w : Body) → links ≡ [] → padded_along links whole ≡ w → whole ≡ w
  unfolding padded_along along
  padded_end links whole w e h = sym (ap (λ ks. padded_along ks whole) e) ∙ h

-- what suits a right side suits the right sides of its chain
module _ (picks : List (Option ℕ)) where
  abbrev pub suits_link : Link → Bool
  suits_link l = suits_body picks l.right.now

  suits_law : (o : Operation) (a b : Body) → suits_body picks (applied o a b) ≡ (suits_body picks a && suits_body picks b)
  suits_law operation.Plus a b = suits_is-Plus picks a b
  suits_law operation.Minus a b = suits_is-Minus picks a b
  suits_law operation.Times a b = suits_is-Times picks a b

  pub chain_suits : (first whole : Body) (ls : List Link) → linked first ls ≡ whole → IsTrue (suits_body picks whole) → IsTrue (suits_body picks first) × IsTrue (list_all suits_link ls)
  chain_suits = of_parts (suits_body picks) suits_law
