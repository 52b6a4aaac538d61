-- Right sides: what is made of each kind.
use Rattle.std.proofs.Common.{◌≡◌, ℕ, Bool, true, false, ◌&&◌, refl, sym, ap, ◌∙◌}
use Rattle.std.specs.Prelude.{Result, Ok, Err, IsErr, IsErrAnd, IsTrue}
use Rattle.int_rows.specs.declared.row.Aff.{Aff}
use Rattle.nest_tree.specs.declared.body.Access.{Access}
use Rattle.nest_tree.specs.declared.body.Body.{Body, fold_out-Body, map-Body, out-Body}
use Rattle.nest_tree.specs.declared.body.Body.TheVariants.{Const, At, Plus, Minus, Times, outs-Const, outs-At, outs-Plus, outs-Minus, outs-Times}
use Rattle.nest_tree.specs.declared.body.Body.TheOpen.{Body-F}
use Rattle.chill_base.specs.declared.faults.Stop.{Stop}
use Rattle.nest_core.specs.Making.{Gives, after, pair_made}
use Rattle.nest_core.specs.Pieces.{access_made, body_made, body_layer, both_made}
use Rattle.nest_core.specs.Shapes.{is_access_over, is_body_over, over_layer}
use Rattle.nest_core.proofs.Makes.{gives-err}

module _ {E : Type 0} (f : Aff → Result Aff E) where
  made_at : (b : Body) (d : Body-F Body) → out-Body b ≡ d → body_made f b ≡ body_layer f (map-Body Body (Result Body E) (body_made f) d)
  unfolding body_made
  made_at b d h = fold_out-Body (Result Body E) (body_layer f) b ∙ ap (λ d. body_layer f (map-Body Body (Result Body E) (body_made f) d)) h

  pub made-Const : (b : Body) (n : ℕ) → b ≡ Const n → body_made f b ≡ Ok (Const n)
  made-Const b n e = ap (body_made f) e ∙ made_at (Const n) _ (outs-Const n)

  pub made-At : (b : Body) (a : Access) → b ≡ At a → body_made f b ≡ after (access_made f a) (λ c. Ok (At c))
  made-At b a e = ap (body_made f) e ∙ made_at (At a) _ (outs-At a)

  pub at_ok : (b : Body) (a c : Access) → b ≡ At a → access_made f a ≡ Ok c → body_made f b ≡ Ok (At c)
  at_ok b a c e d = made-At b a e ∙ ap (λ r. after r (λ c. Ok (At c))) d

  pub at_err : (r : Result Body (Stop E)) (x : Stop E) (b : Body) (a : Access) → b ≡ At a → IsErr r × IsErrAnd r (λ y. y ≡ x) → Gives (Err x) (access_made f a) → Gives r (body_made f b)
  at_err r x b a e is g = gives-err r x (access_made f a) (body_made f b) is g (λ y h. made-At b a e ∙ ap (λ r. after r (λ c. Ok (At c))) h)

  pub made-Plus : (b x y : Body) → b ≡ Plus x y → body_made f b ≡ both_made Plus (body_made f x) (body_made f y)
  made-Plus b x y e = ap (body_made f) e ∙ made_at (Plus x y) _ (outs-Plus x y)

  pub plus_ok : (b x y v w : Body) → b ≡ Plus x y → pair_made (body_made f x) (body_made f y) ≡ Ok (v, w) → body_made f b ≡ Ok (Plus v w)
  plus_ok b x y v w e d = made-Plus b x y e ∙ ap (λ r. after r (λ p. Ok (Plus p.0 p.1))) d

  pub plus_err : (r : Result Body (Stop E)) (z : Stop E) (b x y : Body) → b ≡ Plus x y → IsErr r × IsErrAnd r (λ u. u ≡ z) → Gives (Err z) (pair_made (body_made f x) (body_made f y)) → Gives r (body_made f b)
  plus_err r z b x y e is g = gives-err r z (pair_made (body_made f x) (body_made f y)) (body_made f b) is g (λ u h. made-Plus b x y e ∙ ap (λ r. after r (λ p. Ok (Plus p.0 p.1))) h)

  pub made-Minus : (b x y : Body) → b ≡ Minus x y → body_made f b ≡ both_made Minus (body_made f x) (body_made f y)
  made-Minus b x y e = ap (body_made f) e ∙ made_at (Minus x y) _ (outs-Minus x y)

  pub minus_ok : (b x y v w : Body) → b ≡ Minus x y → pair_made (body_made f x) (body_made f y) ≡ Ok (v, w) → body_made f b ≡ Ok (Minus v w)
  minus_ok b x y v w e d = made-Minus b x y e ∙ ap (λ r. after r (λ p. Ok (Minus p.0 p.1))) d

  pub minus_err : (r : Result Body (Stop E)) (z : Stop E) (b x y : Body) → b ≡ Minus x y → IsErr r × IsErrAnd r (λ u. u ≡ z) → Gives (Err z) (pair_made (body_made f x) (body_made f y)) → Gives r (body_made f b)
  minus_err r z b x y e is g = gives-err r z (pair_made (body_made f x) (body_made f y)) (body_made f b) is g (λ u h. made-Minus b x y e ∙ ap (λ r. after r (λ p. Ok (Minus p.0 p.1))) h)

  pub made-Times : (b x y : Body) → b ≡ Times x y → body_made f b ≡ both_made Times (body_made f x) (body_made f y)
  made-Times b x y e = ap (body_made f) e ∙ made_at (Times x y) _ (outs-Times x y)

  pub times_ok : (b x y v w : Body) → b ≡ Times x y → pair_made (body_made f x) (body_made f y) ≡ Ok (v, w) → body_made f b ≡ Ok (Times v w)
  times_ok b x y v w e d = made-Times b x y e ∙ ap (λ r. after r (λ p. Ok (Times p.0 p.1))) d

  pub times_err : (r : Result Body (Stop E)) (z : Stop E) (b x y : Body) → b ≡ Times x y → IsErr r × IsErrAnd r (λ u. u ≡ z) → Gives (Err z) (pair_made (body_made f x) (body_made f y)) → Gives r (body_made f b)
  times_err r z b x y e is g = gives-err r z (pair_made (body_made f x) (body_made f y)) (body_made f b) is g (λ u h. made-Times b x y e ∙ ap (λ r. after r (λ p. Ok (Times p.0 p.1))) h)

module _ (n : ℕ) where
  over_at : (b : Body) (d : Body-F Body) → out-Body b ≡ d → is_body_over n b ≡ over_layer n (map-Body Body Bool (is_body_over n) d)
  unfolding is_body_over
  over_at b d h = fold_out-Body Bool (over_layer n) b ∙ ap (λ d. over_layer n (map-Body Body Bool (is_body_over n) d)) h

  pub over-At : (b : Body) (a : Access) → b ≡ At a → IsTrue (is_body_over n b) → IsTrue (is_access_over n a)
  over-At b a e h = sym (over_at (At a) _ (outs-At a)) ∙ sym (ap (is_body_over n) e) ∙ h

  both : (x y : Bool) → x && y ≡ true → (x ≡ true) × (y ≡ true)
  both true true e = (refl, refl)
  both true false e = absurd cc
  both false y e = absurd cc

  pub over-Plus : (b x y : Body) → b ≡ Plus x y → IsTrue (is_body_over n b) → IsTrue (is_body_over n x) × IsTrue (is_body_over n y)
  over-Plus b x y e h = both _ _ (sym (over_at (Plus x y) _ (outs-Plus x y)) ∙ sym (ap (is_body_over n) e) ∙ h)

  pub over-Minus : (b x y : Body) → b ≡ Minus x y → IsTrue (is_body_over n b) → IsTrue (is_body_over n x) × IsTrue (is_body_over n y)
  over-Minus b x y e h = both _ _ (sym (over_at (Minus x y) _ (outs-Minus x y)) ∙ sym (ap (is_body_over n) e) ∙ h)

  pub over-Times : (b x y : Body) → b ≡ Times x y → IsTrue (is_body_over n b) → IsTrue (is_body_over n x) × IsTrue (is_body_over n y)
  over-Times b x y e h = both _ _ (sym (over_at (Times x y) _ (outs-Times x y)) ∙ sym (ap (is_body_over n) e) ∙ h)

  pub over_is-Const : (c : ℕ) → is_body_over n (Const c) ≡ true
  over_is-Const c = over_at (Const c) _ (outs-Const c)

  pub over_is-At : (a : Access) → is_body_over n (At a) ≡ is_access_over n a
  over_is-At a = over_at (At a) _ (outs-At a)

  pub over_is-Plus : (x y : Body) → is_body_over n (Plus x y) ≡ (is_body_over n x && is_body_over n y)
  over_is-Plus x y = over_at (Plus x y) _ (outs-Plus x y)

  pub over_is-Minus : (x y : Body) → is_body_over n (Minus x y) ≡ (is_body_over n x && is_body_over n y)
  over_is-Minus x y = over_at (Minus x y) _ (outs-Minus x y)

  pub over_is-Times : (x y : Body) → is_body_over n (Times x y) ≡ (is_body_over n x && is_body_over n y)
  over_is-Times x y = over_at (Times x y) _ (outs-Times x y)
