-- A right side that is made anew has the shapes of right sides.
use Rattle.std.proofs.Common.{◌≡◌, ℕ, true, ◌&&◌, refl, sym, ◌∙◌, subst}
use Rattle.std.specs.Prelude.{Result, Ok, Err}
use Rattle.int_rows.specs.declared.row.Aff.{Aff}
use Rattle.int_rows.specs.declared.row.Excess.{Excess}
use Rattle.nest_tree.specs.declared.body.Access.{Access}
use Rattle.nest_tree.specs.declared.body.Body.{Body, ind-Body, map-Body, roll-Body}
use Rattle.nest_tree.specs.declared.body.Body.TheVariants.{Const, At, Plus, Minus, Times, rolls-Const, rolls-At, rolls-Plus, rolls-Minus, rolls-Times}
use Rattle.nest_tree.specs.declared.body.Body.TheOpen.{Body-F, Const as Const-F, At as At-F, Plus as Plus-F, Minus as Minus-F, Times as Times-F}
use Rattle.nest_core.specs.Forms.{has_vars}
use Rattle.nest_core.specs.Pieces.{access_made, body_made, both_made}
use Rattle.nest_core.specs.Shapes.{is_body_over}
use Rattle.nest_core.proofs.Bodies.{made-Const, made-At, made-Plus, made-Minus, made-Times, over_is-Const, over_is-At, over_is-Plus, over_is-Minus, over_is-Times}
use Rattle.nest_core.proofs.Kept.{after_ok, and, access_made-kept}

-- induction on right sides
pub record Cases (P : Body → Type 0) : Type 0 where
  pub const : (c : ℕ) → P (Const c)
  pub cell : (a : Access) → P (At a)
  pub plus : (x y : Body) → P x → P y → P (Plus x y)
  pub minus : (x y : Body) → P x → P y → P (Minus x y)
  pub times : (x y : Body) → P x → P y → P (Times x y)

layer_of : {A : Type 0} (P : Body → Type 0) → Cases P → (f : A → Body) (g : (a : A) → P (f a)) (y : Body-F A) → P (roll-Body (map-Body A Body f y))
layer_of P cases f g (Const-F c) = subst P (sym (rolls-Const c)) (cases.const c)
layer_of P cases f g (At-F a) = subst P (sym (rolls-At a)) (cases.cell a)
layer_of P cases f g (Plus-F x y) = subst P (sym (rolls-Plus _ _)) (cases.plus _ _ (g x) (g y))
layer_of P cases f g (Minus-F x y) = subst P (sym (rolls-Minus _ _)) (cases.minus _ _ (g x) (g y))
layer_of P cases f g (Times-F x y) = subst P (sym (rolls-Times _ _)) (cases.times _ _ (g x) (g y))

pub induct : (P : Body → Type 0) → Cases P → (b : Body) → P b
induct P cases = ind-Body P (λ x y e. subst (λ d. P (roll-Body d)) e (layer_of P cases (λ e. e.0) (λ e. e.1) y))

both_made_ok : (op : Body → Body → Body) (a b : Result Body Excess) (z : Body) → both_made op a b ≡ Ok z → (x : Body) × (y : Body) × (a ≡ Ok x) × (b ≡ Ok y) × (z ≡ op x y)
both_made_ok op (Ok x) (Ok y) z e = (x, y, refl, refl, cc)
both_made_ok op (Ok x) (Err w) z e = absurd cc
both_made_ok op (Err w) b z e = absurd cc

module _ (n m : ℕ) (f : Aff → Result Aff Excess) (h : (x y : Aff) → has_vars n x ≡ true → f x ≡ Ok y → has_vars m y ≡ true) where
  IsKept : Body → Type 0
  IsKept b = (c : Body) → is_body_over n b ≡ true → body_made f b ≡ Ok c → is_body_over m c ≡ true

  two : (op : Body → Body → Body) → ((k : ℕ) (x y : Body) → is_body_over k (op x y) ≡ (is_body_over k x && is_body_over k y)) → ((x y : Body) → body_made f (op x y) ≡ both_made op (body_made f x) (body_made f y))
      → (x y : Body) → IsKept x → IsKept y → IsKept (op x y)
  unfolding IsKept
  two op over made x y p q c w e =
      let a = both_made_ok op (body_made f x) (body_made f y) c (sym (made x y) ∙ e) in
      let t = and (is_body_over n x) (is_body_over n y) (sym (over n x y) ∙ w) in
      rw (a.4, over m a.0 a.1, p a.0 t.0 a.2) (q a.1 t.1 a.3)

  const_kept : (v : ℕ) → IsKept (Const v)
  unfolding IsKept
  const_kept v c w e =
      let made = made-Const f (Const v) v refl in
      let is : c ≡ Const v = cc in
      rw is (over_is-Const m v)

  cell_kept : (a : Access) → IsKept (At a)
  unfolding IsKept
  cell_kept a c w e =
      let x = after_ok (access_made f a) _ c (sym (made-At f (At a) a refl) ∙ e) in
      let is : c ≡ At x.0 = cc in
      rw is (over_is-At m x.0 ∙ access_made-kept n m f h a x.0 (sym (over_is-At n a) ∙ w) x.1)

  all_kept : (b : Body) → IsKept b
  all_kept = induct IsKept (record {
    const = const_kept;
    cell = cell_kept;
    plus = two Plus over_is-Plus (λ x y. made-Plus f (Plus x y) x y refl);
    minus = two Minus over_is-Minus (λ x y. made-Minus f (Minus x y) x y refl);
    times = two Times over_is-Times (λ x y. made-Times f (Times x y) x y refl);
  })

  pub body_made-kept : (b c : Body) → is_body_over n b ≡ true → body_made f b ≡ Ok c → is_body_over m c ≡ true
  unfolding IsKept
  body_made-kept b = all_kept b
