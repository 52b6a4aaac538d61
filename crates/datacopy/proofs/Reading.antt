-- The reads of an array in a right side.
use Rattle.std.proofs.Common.{◌≡◌, ℕ, Bool, true, false, ◌&&◌, List, [], ◌∷◌, ◌++◌, refl, sym, ap, ◌∙◌}
use Rattle.std.specs.Prelude.{bytes_eq, IsTrue}
use Rattle.std.specs.List.{list_all}
use Rattle.std.proofs.lemmas.Bool.{cond_both}
use Rattle.std.proofs.lemmas.List.Folds.{list_all-append}
use Rattle.nest_tree.specs.declared.body.Access.{Access}
use Rattle.nest_tree.specs.declared.body.Body.{Body, fold_out-Body, map-Body, out-Body}
use Rattle.nest_tree.specs.declared.body.Body.TheVariants.{Const, At, Plus, Minus, Times, outs-Const, outs-At, outs-Plus, outs-Minus, outs-Times}
use Rattle.nest_tree.specs.declared.body.Body.TheOpen.{Body-F}
use Rattle.nest_core.specs.Shapes.{is_access_over, is_body_over}
use Rattle.nest_core.proofs.Bodies.{over_is-At, over_is-Plus, over_is-Minus, over_is-Times}
use Rattle.nest_core.proofs.BodiesKept.{induct}
use Rattle.datacopy.specs.Reads.{read_of, reads_layer, reads_of}

module _ (array : List ℕ) where
  reads_at : (b : Body) (d : Body-F Body) → out-Body b ≡ d → reads_of array b ≡ reads_layer array (map-Body Body (List Access) (reads_of array) d)
  unfolding reads_of
  reads_at b d h = fold_out-Body (List Access) (reads_layer array) b ∙ ap (λ d. reads_layer array (map-Body Body (List Access) (reads_of array) d)) h

  pub reads-Const : (b : Body) (c : ℕ) → b ≡ Const c → reads_of array b ≡ []
  reads-Const b c e = ap (reads_of array) e ∙ reads_at (Const c) _ (outs-Const c)

  pub reads-At : (b : Body) (a : Access) → b ≡ At a → reads_of array b ≡ read_of array a
  reads-At b a e = ap (reads_of array) e ∙ reads_at (At a) _ (outs-At a)

  pub reads-Plus : (b x y : Body) → b ≡ Plus x y → reads_of array b ≡ reads_of array x ++ reads_of array y
  reads-Plus b x y e = ap (reads_of array) e ∙ reads_at (Plus x y) _ (outs-Plus x y)

  pub reads-Minus : (b x y : Body) → b ≡ Minus x y → reads_of array b ≡ reads_of array x ++ reads_of array y
  reads-Minus b x y e = ap (reads_of array) e ∙ reads_at (Minus x y) _ (outs-Minus x y)

  pub reads-Times : (b x y : Body) → b ≡ Times x y → reads_of array b ≡ reads_of array x ++ reads_of array y
  reads-Times b x y e = ap (reads_of array) e ∙ reads_at (Times x y) _ (outs-Times x y)

pub both : (x y : Bool) → x && y ≡ true → (x ≡ true) × (y ≡ true)
both true true e = (refl, refl)
both true false e = absurd cc
both false y e = absurd cc

-- the reads of a right side are over as many variables as it
module _ (n : ℕ) (array : List ℕ) where
  AreOver : Body → Type 0
  AreOver b = is_body_over n b ≡ true → list_all (is_access_over n) (reads_of array b) ≡ true

  two : (op : Body → Body → Body) → ((k : ℕ) (x y : Body) → is_body_over k (op x y) ≡ (is_body_over k x && is_body_over k y)) → ((x y : Body) → reads_of array (op x y) ≡ reads_of array x ++ reads_of array y)
      → (x y : Body) → AreOver x → AreOver y → AreOver (op x y)
  unfolding AreOver
  two op over reads x y p q w =
      let t = both (is_body_over n x) (is_body_over n y) (sym (over n x y) ∙ w) in
      rw (reads x y, list_all-append, p t.0) (q t.1)

  const_over : (c : ℕ) → AreOver (Const c)
  unfolding AreOver
  const_over c w = rw (reads-Const array (Const c) c refl) refl

  cell_over : (a : Access) → AreOver (At a)
  unfolding AreOver
  cell_over a w =
      let over : is_access_over n a ≡ true = sym (over_is-At n a) ∙ w in
      rw (reads-At array (At a) a refl)
      (cond_both (bytes_eq a.array array) (a ∷ []) [] (λ (l : List Access). list_all (is_access_over n) l ≡ true) (λ _. rw over refl) (λ _. refl))

  all_over : (b : Body) → AreOver b
  all_over = induct AreOver (record {
    const = const_over;
    cell = cell_over;
    plus = two Plus over_is-Plus (λ x y. reads-Plus array (Plus x y) x y refl);
    minus = two Minus over_is-Minus (λ x y. reads-Minus array (Minus x y) x y refl);
    times = two Times over_is-Times (λ x y. reads-Times array (Times x y) x y refl);
  })

  pub reads-over : (b : Body) → IsTrue (is_body_over n b) → IsTrue (list_all (is_access_over n) (reads_of array b))
  unfolding AreOver
  reads-over b w = all_over b w
