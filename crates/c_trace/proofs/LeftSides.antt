-- Down the left side of a data expression: what its text is, and which cells its parts have.
use Rattle.std.proofs.Common.{ℕ, zero, suc, ◌≡◌, ◌+◌, ◌≤◌, ◌<◌, [], ◌++◌, refl, sym, ap, ◌∙◌, append_assoc, append-nil, add-zero, add-one, arith, rules, ◌-◌, inl, inr, true}
use Rattle.std.specs.Prelude.{codes, ◌⊎◌}
use Rattle.c_tree.specs.declared.index.Cell.{Cell}
use Rattle.c_tree.specs.declared.data.Expr.{Expr, Expr-F, map-Expr, out-Expr, size-Expr, the_lemmas}
use Rattle.c_tree.specs.declared.data.Expr.TheOpen as layer
use Rattle.c_tree.specs.declared.data.Expr.TheVariants.{Const, At, Plus, Minus, Times, outs-Const, outs-At, outs-Plus, outs-Minus, outs-Times}
use Rattle.c_meaning.specs.Scope.{Scope}
use Rattle.c_meaning.specs.Value.{Sight}
use Rattle.c_meaning.proofs.Fitting.{and_left}
use Rattle.c_print.specs.declared.level.Level.{Level}
use Rattle.c_print.specs.declared.level.Level.TheVariants.{Sum, Product, Atom}
use Rattle.c_print.specs.Printed.{Text, Printed, part_at, as_part, as_factor}
use Rattle.c_print.specs.Data.{data_layer, data_printed}
use Rattle.c_trace.specs.Lines.{has_cells}
use Rattle.c_trace.specs.LeftSide.{level_layer, level_of, left_layer, left_part, opened_at, closed_at, opened_layer, opened, link_layer, link, down, opened_down, behind, opening}
use Rattle.c_trace.proofs.DataLines.{data_at}
use Rattle.c_trace.proofs.Cells.{cells_at}

pub opening-add : (m n : ℕ) → opening (m + n) ≡ opening m ++ opening n
opening-add zero n = ap opening (omega arith)
opening-add (suc m) n = ap opening (let h : suc m + n ≡ suc (m + n) = omega arith in h) ∙ ap (λ t. codes "(" ++ t) (opening-add m n)

-- a step more
pub down_more : (e : Expr) (k : ℕ) → down e (k + 1) ≡ left_part (down e k)
down_more e k = ap (down e) (add-one k)

pub opened_more : (e : Expr) (k : ℕ) → opened_down e (k + 1) ≡ opened_down e k + opened (down e k)
opened_more e k = ap (opened_down e) (add-one k)

pub down-add : (e : Expr) (a b : ℕ) → down e (a + b) ≡ down (down e a) b
down-add e a zero = ap (down e) (add-zero a)
down-add e a (suc b) = ap (down e) (let h : a + suc b ≡ suc (a + b) = omega arith in h) ∙ ap left_part (down-add e a b)

module _ (cell : Cell → Text) where
  level_at : (d : Expr-F Expr) → (data_layer cell (map-Expr Expr Printed (data_printed cell) d)).level ≡ level_layer d
  level_at (layer.Const n) = refl
  level_at (layer.At c) = refl
  level_at (layer.Plus a b) = refl
  level_at (layer.Minus a b) = refl
  level_at (layer.Times a b) = refl

  pub level_printed : (e : Expr) → (data_printed cell e).level ≡ level_of e
  unfolding level_of
  level_printed e = ap (λ p. p.level) (data_at cell e (out-Expr e) refl) ∙ level_at (out-Expr e)

  bracketed_at : (l : Level) (p : Printed) → (part_at l p).text ≡ opening (opened_at l) ++ p.text ++ closed_at l
  bracketed_at Sum p = refl
  bracketed_at Product p = sym (append-nil p.text)
  bracketed_at Atom p = sym (append-nil p.text)

  bracketed : (a : Expr) → (as_part (data_printed cell a)).text ≡ opening (opened_at (level_of a)) ++ (data_printed cell a).text ++ closed_at (level_of a)
  bracketed a = ap (λ l. (part_at l (data_printed cell a)).text) (level_printed a) ∙ bracketed_at (level_of a) (data_printed cell a)

  product : (o t c s f : Text) → ((o ++ t ++ c) ++ s) ++ f ≡ (o ++ t) ++ ((c ++ s) ++ f)
  product o t c s f = simp append_assoc

  step_at : (e : Expr) (d : Expr-F Expr) → out-Expr e ≡ d → (data_printed cell e).text ≡ opening (opened_layer d) ++ (data_printed cell (left_layer e d)).text ++ link_layer cell d
  step_at e (layer.Const n) h = sym (append-nil _)
  step_at e (layer.At c) h = sym (append-nil _)
  step_at e (layer.Plus a b) h = ap (λ p. p.text) (data_at cell e (layer.Plus a b) h) ∙ append_assoc (data_printed cell a).text (codes " + ") (as_part (data_printed cell b)).text
  step_at e (layer.Minus a b) h = ap (λ p. p.text) (data_at cell e (layer.Minus a b) h) ∙ append_assoc (data_printed cell a).text (codes " - ") (as_part (data_printed cell b)).text
  step_at e (layer.Times a b) h =
      ap (λ p. p.text) (data_at cell e (layer.Times a b) h)
      ∙ (ap (λ t. (t ++ codes " * ") ++ (as_factor (data_printed cell b)).text) (bracketed a)
      ∙ product (opening (opened_at (level_of a))) (data_printed cell a).text (closed_at (level_of a)) (codes " * ") (as_factor (data_printed cell b)).text)

  -- a text is that of the left part, and what stands around it
  pub one_step : (e : Expr) → (data_printed cell e).text ≡ opening (opened e) ++ (data_printed cell (left_part e)).text ++ link cell e
  unfolding opened left_part link
  one_step e = step_at e (out-Expr e) refl

  regroup : (o p t l b : Text) → (o ++ (p ++ t ++ l)) ++ b ≡ ((o ++ p) ++ t) ++ (l ++ b)
  regroup o p t l b = simp append_assoc

  -- and so it is for the part so many steps down
  pub all_steps : (e : Expr) (k : ℕ) → (data_printed cell e).text ≡ opening (opened_down e k) ++ (data_printed cell (down e k)).text ++ behind cell e k
  all_steps e zero = sym (append-nil _)
  all_steps e (suc k) =
      all_steps e k
      ∙ (ap (λ t. (opening (opened_down e k) ++ t) ++ behind cell e k) (one_step (down e k))
      ∙ (regroup (opening (opened_down e k)) (opening (opened (down e k))) (data_printed cell (left_part (down e k))).text (link cell (down e k)) (behind cell e k)
      ∙ ap (λ o. (o ++ (data_printed cell (left_part (down e k))).text) ++ (link cell (down e k) ++ behind cell e k)) (sym (opening-add (opened_down e k) (opened (down e k))))))

  pub behind-add : (e : Expr) (a b : ℕ) → behind cell e (a + b) ≡ behind cell (down e a) b ++ behind cell e a
  behind-add e a zero = ap (behind cell e) (add-zero a)
  behind-add e a (suc b) =
      ap (behind cell e) (let h : a + suc b ≡ suc (a + b) = omega arith in h)
      ∙ (ap (λ d. link cell d ++ behind cell e (a + b)) (down-add e a b)
      ∙ (ap (λ t. link cell (down (down e a) b) ++ t) (behind-add e a b)
      ∙ sym (append_assoc (link cell (down (down e a) b)) (behind cell (down e a) b) (behind cell e a))))

  pub behind_split : (e d : Expr) (k half : ℕ) → half ≤ k → d ≡ down e half → behind cell e k ≡ behind cell d (k - half) ++ behind cell e half
  behind_split e d k half h q =
      ap (behind cell e) (let m : k ≡ half + (k - half) = omega arith in m)
      ∙ (behind-add e half (k - half) ∙ ap (λ x. behind cell x (k - half) ++ behind cell e half) (sym q))

  pub around : (e rest : Expr) (k brackets : ℕ) → rest ≡ down e k → brackets ≡ opened_down e k → (data_printed cell e).text ≡ opening brackets ++ (data_printed cell rest).text ++ behind cell e k
  around e rest k brackets q r =
      all_steps e k ∙ (ap (λ x. opening (opened_down e k) ++ (data_printed cell x).text ++ behind cell e k) (sym q) ∙ ap (λ n. opening n ++ (data_printed cell rest).text ++ behind cell e k) (sym r))

  link_at : (e : Expr) (d : Expr-F Expr) → out-Expr e ≡ d → link cell e ≡ link_layer cell d
  unfolding link
  link_at e d h = ap (link_layer cell) h

  pub link_const : (e : Expr) (n : ℕ) → e ≡ Const n → link cell e ≡ []
  link_const e n h = ap (link cell) h ∙ link_at (Const n) _ (outs-Const n)

  pub link_cell : (e : Expr) (x : Cell) → e ≡ At x → link cell e ≡ []
  link_cell e x h = ap (link cell) h ∙ link_at (At x) _ (outs-At x)

  pub link_plus : (e a b : Expr) → e ≡ Plus a b → link cell e ≡ codes " + " ++ (as_part (data_printed cell b)).text
  link_plus e a b h = ap (link cell) h ∙ link_at (Plus a b) _ (outs-Plus a b)

  pub link_minus : (e a b : Expr) → e ≡ Minus a b → link cell e ≡ codes " - " ++ (as_part (data_printed cell b)).text
  link_minus e a b h = ap (link cell) h ∙ link_at (Minus a b) _ (outs-Minus a b)

  pub link_times : (e a b : Expr) → e ≡ Times a b → link cell e ≡ closed_at (level_of a) ++ codes " * " ++ (as_factor (data_printed cell b)).text
  link_times e a b h = ap (link cell) h ∙ link_at (Times a b) _ (outs-Times a b)

-- the left part of an operation is smaller
left_is : (e : Expr) (d : Expr-F Expr) → out-Expr e ≡ d → left_part e ≡ left_layer e d
unfolding left_part
left_is e d h = ap (left_layer e) h

smaller_at : (e o a : Expr) → e ≡ o → left_part o ≡ a → size-Expr a < size-Expr o → size-Expr (left_part e) < size-Expr e
smaller_at e o a h k l = omega (arith, ap (λ x. size-Expr (left_part x)) h, ap size-Expr h, ap size-Expr k)

abbrev pub IsOperation : Expr → Type 0
IsOperation e = ((a : Expr) × (b : Expr) × e ≡ Plus a b) ⊎ (((a : Expr) × (b : Expr) × e ≡ Minus a b) ⊎ ((a : Expr) × (b : Expr) × e ≡ Times a b))

pub left_smaller : (e : Expr) → IsOperation e → size-Expr (left_part e) < size-Expr e
left_smaller e (inl h) = smaller_at e (Plus h.0 h.1) h.0 h.2 (left_is (Plus h.0 h.1) _ (outs-Plus h.0 h.1)) (search (rules, the_lemmas))
left_smaller e (inr (inl h)) = smaller_at e (Minus h.0 h.1) h.0 h.2 (left_is (Minus h.0 h.1) _ (outs-Minus h.0 h.1)) (search (rules, the_lemmas))
left_smaller e (inr (inr h)) = smaller_at e (Times h.0 h.1) h.0 h.2 (left_is (Times h.0 h.1) _ (outs-Times h.0 h.1)) (search (rules, the_lemmas))

module _ (c : Scope) (s : Sight) where
  left_at : (e : Expr) (d : Expr-F Expr) → out-Expr e ≡ d → has_cells e c s ≡ true → has_cells (left_layer e d) c s ≡ true
  left_at e (layer.Const n) h k = k
  left_at e (layer.At x) h k = k
  left_at e (layer.Plus a b) h k = and_left (has_cells a c s) (has_cells b c s) (sym (cells_at e (layer.Plus a b) h c s) ∙ k)
  left_at e (layer.Minus a b) h k = and_left (has_cells a c s) (has_cells b c s) (sym (cells_at e (layer.Minus a b) h c s) ∙ k)
  left_at e (layer.Times a b) h k = and_left (has_cells a c s) (has_cells b c s) (sym (cells_at e (layer.Times a b) h c s) ∙ k)

  pub left_has : (e : Expr) → has_cells e c s ≡ true → has_cells (left_part e) c s ≡ true
  unfolding left_part
  left_has e k = left_at e (out-Expr e) refl k

  pub down_has : (e : Expr) (k : ℕ) → has_cells e c s ≡ true → has_cells (down e k) c s ≡ true
  down_has e zero h = h
  down_has e (suc k) h = left_has (down e k) (down_has e k h)

  pub part_has : (e d : Expr) (k : ℕ) → d ≡ down e k → has_cells e c s ≡ true → has_cells d c s ≡ true
  part_has e d k q h = ap (λ x. has_cells x c s) q ∙ down_has e k h
