-- The steps of the loop that adds up levels.
use Rattle.std.proofs.Common.{◌≡◌, ℕ, zero, suc, arith, ◌<◌, ◌≤◌, ◌+◌, List, [], ◌∷◌, drop, length, get_or, refl, sym, ap, ◌∙◌, drop-cons, add-one, ℤ, pos, false}
use Rattle.std.specs.Prelude.{Option, Some, None, slice_get, unwrap_or, ◌-◌}
use Rattle.std.specs.Ordering.{int_eq}
use Rattle.std.proofs.lemmas.List.{drop_all}
use Rattle.nest_tree.specs.declared.form.Form.{Form}
use Rattle.nest_tree.specs.declared.form.Form.TheVariants.{Other}
use Rattle.affine_moves.specs.declared.levels.Sum.{Sum}
use Rattle.affine_moves.specs.Levels.{form_at, sum_of, plus, plus_multiple, plus_each, IsAtMost}

pub weaker : (s : Option Sum) (m n : ℕ) → m ≤ n → IsAtMost m s → IsAtMost n s
weaker None m n h a = tt
weaker (Some s) m n h a = (omega (arith, h, a.0), omega (arith, h, a.1), omega (arith, h, a.2), omega (arith, h, a.3))

pub plus_multiple-some : (s : Sum) (c : ℤ) (f : Form) (t : Sum) (r : Option Sum) → false ≡ int_eq c (pos 0) → Some t ≡ sum_of f → r ≡ plus s c (Some t) → r ≡ plus_multiple s c f
unfolding plus_multiple
plus_multiple-some s c f t r h e d = rw (← h, ← e) d

got : (fs : List Form) (i : ℕ) (f : Form) → i < length fs → slice_get fs i ≡ Some (get_or fs i f)
got [] i f l = absurd (omega (arith, l))
got (g ∷ fs) zero f l = refl
got (g ∷ fs) (suc i) f l = got fs i f (omega (arith, l))

-- a level's form by its number is the one at its place
pub form_at-is : (fs : List Form) (i : ℕ) (f : Form) → i < length fs → f ≡ form_at fs (i + 1) → f ≡ get_or fs i f
unfolding form_at
form_at-is fs i f l e =
    let one : i + 1 - 1 ≡ i = omega arith in
    e ∙ ap (λ (k : ℕ). unwrap_or (slice_get fs k) Other) one ∙ ap (λ (o : Option Form). unwrap_or o Other) (got fs i f l)

module _ (s : Sum) (cs : List ℤ) (fs : List Form) (i : ℕ) (w : Option Sum) where
  pub each-end : length cs ≤ i → plus_each (Some s) (drop i cs) (drop i fs) ≡ w → Some s ≡ w
  each-end l e = let none : drop i cs ≡ [] = drop_all i cs l in rw none at e

  module _ (f : Form) (l : i < length cs) (m : i < length fs) (is : f ≡ get_or fs i f) where
    step : plus_each (Some s) (drop i cs) (drop i fs) ≡ plus_each (plus_multiple s (get_or cs i (pos 0)) f) (drop (suc i) cs) (drop (suc i) fs)
    step =
        let a : drop i cs ≡ get_or cs i (pos 0) ∷ drop (suc i) cs = drop-cons cs i (pos 0) l in
        let b : drop i fs ≡ f ∷ drop (suc i) fs = drop-cons fs i f m ∙ ap (λ (x : Form). x ∷ drop (suc i) fs) (sym is) in
        rw (a, b) refl

    pub each-more : (t : Sum) → Some t ≡ plus_multiple s (get_or cs i (pos 0)) f → plus_each (Some s) (drop i cs) (drop i fs) ≡ w → plus_each (Some t) (drop (i + 1) cs) (drop (i + 1) fs) ≡ w
    each-more t h e = rw (add-one i) (ap (λ (x : Option Sum). plus_each x (drop (suc i) cs) (drop (suc i) fs)) h ∙ sym step ∙ e)

    pub each-none : None ≡ plus_multiple s (get_or cs i (pos 0)) f → plus_each (Some s) (drop i cs) (drop i fs) ≡ w → None ≡ w
    each-none h e = ap (λ (x : Option Sum). plus_each x (drop (suc i) cs) (drop (suc i) fs)) h ∙ sym step ∙ e
