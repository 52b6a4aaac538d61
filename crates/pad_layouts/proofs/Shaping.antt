-- A padded statement has the shapes of statements.
use Rattle.std.proofs.Common.{◌≡◌, ℕ, suc, ◌+◌, true, ◌&&◌, List, length, replicate, refl, sym, ap, ◌∙◌}
use Rattle.std.proofs.lemmas.List.{length-replicate}
use Rattle.std.specs.Prelude.{IsTrue, Option}
use Rattle.std.specs.List.{list_all}
use Rattle.std.proofs.lemmas.Bool.{cond_both}
use Rattle.c_tree.specs.declared.program.Program.{Program}
use Rattle.nest_tree.specs.declared.body.Access.{Access}
use Rattle.nest_tree.specs.declared.body.Body.{Body}
use Rattle.nest_tree.specs.declared.body.Body.TheVariants.{Const, At, Plus, Minus, Times}
use Rattle.nest_tree.specs.declared.form.Form.TheVariants.{Other}
use Rattle.nest_tree.specs.declared.kernel.Nest.{Nest}
use Rattle.nest_core.specs.Shapes.{is_access_over, is_body_over, IsShapedNest}
use Rattle.nest_core.proofs.Bodies.{over_is-Const, over_is-At, over_is-Plus, over_is-Minus, over_is-Times}
use Rattle.nest_core.proofs.BodiesKept.{induct}
use Rattle.pad_layouts.specs.declared.parts.Parts.{Parts}
use Rattle.pad_layouts.specs.Products.{is_name}
use Rattle.pad_layouts.specs.Moved.{is_pick, moved_access, padded_body, suits_body}
use Rattle.pad_layouts.specs.Parts.{padded_nest, AreFitting}
use Rattle.pad_layouts.proofs.Padding.{padded-Const, padded-At, padded-Plus, padded-Minus, padded-Times, suits_is-Const, suits_is-At, suits_is-Plus, suits_is-Minus, suits_is-Times}
use Rattle.pad_layouts.proofs.Widths.{and_parts, access-over, access-suits}

module _ (n : ℕ) (picks : List (Option ℕ)) (value : List ℕ) (cell : Access) (c : IsTrue (is_access_over (length picks) cell)) where
  StaysOver : Body → Type 0
  StaysOver b = is_body_over n b ≡ true → is_body_over (length picks) (padded_body picks value cell b) ≡ true

  two : (op : Body → Body → Body) → ((k : ℕ) (x y : Body) → is_body_over k (op x y) ≡ (is_body_over k x && is_body_over k y)) → ((x y : Body) → padded_body picks value cell (op x y) ≡ op (padded_body picks value cell x) (padded_body picks value cell y))
      → (x y : Body) → StaysOver x → StaysOver y → StaysOver (op x y)
  unfolding StaysOver
  two op over made x y p q w =
      let t = and_parts (is_body_over n x) (is_body_over n y) (sym (over n x y) ∙ w) in
      rw (made x y, over, p t.0) (q t.1)

  const_over : (v : ℕ) → StaysOver (Const v)
  unfolding StaysOver
  const_over v w = rw (padded-Const picks value cell (Const v) v refl) (over_is-Const (length picks) v)

  cell_over : (a : Access) → StaysOver (At a)
  unfolding StaysOver
  cell_over a w =
      let over : is_access_over n a ≡ true = sym (over_is-At n a) ∙ w in
      rw (padded-At picks value cell (At a) a refl, over_is-At)
      (cond_both (is_name a.array value) cell (moved_access picks a) (λ (x : Access). is_access_over (length picks) x ≡ true) (λ _. c) (λ _. access-over n picks a over))

  all_over : (b : Body) → StaysOver b
  all_over = induct StaysOver (record {
    const = const_over;
    cell = cell_over;
    plus = two Plus over_is-Plus (λ x y. padded-Plus picks value cell (Plus x y) x y refl);
    minus = two Minus over_is-Minus (λ x y. padded-Minus picks value cell (Minus x y) x y refl);
    times = two Times over_is-Times (λ x y. padded-Times picks value cell (Times x y) x y refl);
  })

  pub body-over : (b : Body) → IsTrue (is_body_over n b) → IsTrue (is_body_over (length picks) (padded_body picks value cell b))
  unfolding StaysOver
  body-over b w = all_over b w

module _ (n : ℕ) (picks : List (Option ℕ)) (h : IsTrue (list_all (is_pick n) picks)) where
  Suits : Body → Type 0
  Suits b = is_body_over n b ≡ true → suits_body picks b ≡ true

  both_suit : (op : Body → Body → Body) → ((k : ℕ) (x y : Body) → is_body_over k (op x y) ≡ (is_body_over k x && is_body_over k y)) → ((x y : Body) → suits_body picks (op x y) ≡ (suits_body picks x && suits_body picks y))
      → (x y : Body) → Suits x → Suits y → Suits (op x y)
  unfolding Suits
  both_suit op over made x y p q w =
      let t = and_parts (is_body_over n x) (is_body_over n y) (sym (over n x y) ∙ w) in
      rw (made x y, p t.0) (q t.1)

  const_suits : (v : ℕ) → Suits (Const v)
  unfolding Suits
  const_suits v w = suits_is-Const picks v

  cell_suits : (a : Access) → Suits (At a)
  unfolding Suits
  cell_suits a w = suits_is-At picks a ∙ access-suits n picks a h (sym (over_is-At n a) ∙ w)

  all_suit : (b : Body) → Suits b
  all_suit = induct Suits (record {
    const = const_suits;
    cell = cell_suits;
    plus = both_suit Plus over_is-Plus (suits_is-Plus picks);
    minus = both_suit Minus over_is-Minus (suits_is-Minus picks);
    times = both_suit Times over_is-Times (suits_is-Times picks);
  })

  pub body-suits : (b : Body) → IsTrue (is_body_over n b) → IsTrue (suits_body picks b)
  unfolding Suits
  body-suits b w = all_suit b w

module _ (head : Program) (value : List ℕ) (n : Nest) (p : Parts) where
  pub nest-shaped : IsShapedNest head n → AreFitting (length head.params) p → IsShapedNest head (padded_nest value n p)
  unfolding padded_nest
  nest-shaped s f =
      let d : length (replicate p.depth Other) ≡ p.depth = length-replicate p.depth Other in
      let z : length (replicate p.depth 0) ≡ p.depth = length-replicate p.depth 0 in
      let v : length head.params + length (replicate p.depth Other) + length p.terms ≡ length p.picks = ap (λ k. length head.params + k + length p.terms) d ∙ sym f.picks in
      record {
        positions = ap suc (z ∙ sym d);
        depth = rw d f.depth;
        rows = rw (v, d) f.rows;
        terms = rw v f.terms;
        target = rw v (access-over _ p.picks n.target s.target);
        value = rw v (body-over _ p.picks value p.cell f.cell n.value s.value);
        whole = refl;
      }
