-- Right sides over so many variables, made of two that are.
use Rattle.std.proofs.Common.{◌≡◌, ℕ, Bool, true, ◌&&◌, refl, ap, ◌∙◌}
use Rattle.nest_tree.specs.declared.body.Body.{Body}
use Rattle.nest_tree.specs.declared.body.Body.TheVariants.{Plus, Minus, Times}
use Rattle.nest_core.specs.Shapes.{is_body_over}
use Rattle.nest_core.proofs.Bodies.{over_is-Plus, over_is-Minus, over_is-Times}

both : (p q x y : Bool) → p ≡ x → q ≡ y → x ≡ true → y ≡ true → (p && q) ≡ true
both p q x y ep eq hx hy = rw (ep, eq, hx, hy) refl

pub both-Plus : (n : ℕ) (a b x y : Body) → a ≡ x → b ≡ y → is_body_over n x ≡ true → is_body_over n y ≡ true → is_body_over n (Plus a b) ≡ true
both-Plus n a b x y ea eb hx hy = over_is-Plus n a b ∙ both _ _ _ _ (ap (is_body_over n) ea) (ap (is_body_over n) eb) hx hy

pub both-Minus : (n : ℕ) (a b x y : Body) → a ≡ x → b ≡ y → is_body_over n x ≡ true → is_body_over n y ≡ true → is_body_over n (Minus a b) ≡ true
both-Minus n a b x y ea eb hx hy = over_is-Minus n a b ∙ both _ _ _ _ (ap (is_body_over n) ea) (ap (is_body_over n) eb) hx hy

pub both-Times : (n : ℕ) (a b x y : Body) → a ≡ x → b ≡ y → is_body_over n x ≡ true → is_body_over n y ≡ true → is_body_over n (Times a b) ≡ true
both-Times n a b x y ea eb hx hy = over_is-Times n a b ∙ both _ _ _ _ (ap (is_body_over n) ea) (ap (is_body_over n) eb) hx hy
