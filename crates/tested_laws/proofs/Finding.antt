-- The terms of a rewritten statement find their cells where those of the old one do, and hold themselves no more than those.
use Rattle.std.proofs.Common.{◌≡◌, inl, inr, ℕ, zero, suc, ◌+◌, ◌<◌, List, [], ◌∷◌, map, length, sym, ◌∙◌, ap, subst, arith, ℤ}
use Rattle.std.specs.Prelude.{Option}
use Rattle.int_rows.specs.declared.row.Aff.{Aff}
use Rattle.nest_tree.specs.declared.kernel.Nest.{Nest}
use Rattle.nest_tree.specs.declared.kernel.Term.{Term}
use Rattle.nest_tree.specs.Forms.{value}
use Rattle.nest_tree.specs.Kernels.{point, IsPointOf}
use Rattle.nest_tree.specs.Lists.{IsAt}
use Rattle.nest_tree.specs.Moving.{Move, StandsFor}
use Rattle.nest_tree.specs.Rewriting.{old_variables, SaysForm, SaysTerm, IsRewritten}
use Rattle.nest_tree.specs.Terms.{Input, IsFound, found}
use Rattle.nest_laws.specs.KernelLaws.{HaveSomeRanks}
use Rattle.nest_laws.proofs.Lists.{pair_at-first, pair_at-second, pair_of-second, pairs-map, pairs-length}
use Rattle.nest_laws.proofs.Rewriting.{instance-depth, rewritten-stands}
use Rattle.point_laws.specs.Own.{AreFound}

-- equal lists have equal things at one place
same-at : {A B : Type 0} (f g : A → B) (xs ys : List A) (k : ℕ) (x y : A) → map f xs ≡ map g ys → IsAt k x xs → IsAt k y ys → f x ≡ g y
same-at f g [] ys k x y e a b = absurd a
same-at f g (z ∷ xs) [] k x y e a b = absurd b
same-at f g (z ∷ xs) (w ∷ ys) zero x y e a b = let h : f z ≡ g w = cc in ap f a ∙ h ∙ sym (ap g b)
same-at f g (z ∷ xs) (w ∷ ys) (suc k) x y e a b = let h : map f xs ≡ map g ys = cc in same-at f g xs ys k x y h a b

module _ (i : Input) (m : Move) (r : IsRewritten (length i.params) m) where
  abbrev olds : List Aff
  olds = old_variables (length i.params) m

  abbrev old_width : ℕ
  old_width = length i.params + length (m.old).levels

  abbrev new_width : ℕ
  new_width = length i.params + length (m.piece).levels

  -- what the terms of a statement find where its variables have these values
  abbrev finds : Nest → List ℤ → List (Option ℤ)
  finds n q = map (λ t. i.cells t.array (map (value q) t.at)) n.terms

  same-finds : (q : List ℤ) → finds m.new q ≡ finds m.old (map (value q) olds)
  same-finds q = pairs-map (SaysTerm olds old_width new_width) (λ t. i.cells t.array (map (value (map (value q) olds)) t.at)) (λ t. i.cells t.array (map (value q) t.at)) one (m.old).terms (m.new).terms r.terms
    where
      one : (t u : Term) → SaysTerm olds old_width new_width t u → i.cells u.array (map (value q) u.at) ≡ i.cells t.array (map (value (map (value q) olds)) t.at)
      one t u h =
          ap (λ (a : List ℕ). i.cells a (map (value q) u.at)) h.array
          ∙ ap (λ (at : List ℤ). i.cells t.array at) (pairs-map (SaysForm olds old_width new_width) (value (map (value q) olds)) (value q) (λ f g k. k.same_value q) t.at u.at h.at)

  stands : StandsFor finds i m
  stands = rewritten-stands finds i m r same-finds

  found-new : (q p : List ℤ) → finds m.new q ≡ finds m.old p → (k : ℕ) → IsFound i old_width (m.old).terms p k → IsFound i new_width (m.new).terms q k
  found-new q p e _ (found k t v at is args) =
      let u = pair_at-first (SaysTerm olds old_width new_width) k (m.old).terms (m.new).terms t r.terms at in
      let c = same-at (λ (x : Term). i.cells x.array (map (value q) x.at)) (λ (x : Term). i.cells x.array (map (value p) x.at)) (m.new).terms (m.old).terms k u.0 t e u.1 at in
      found k u.0 v u.1 (c ∙ is)
      (λ g j a n. (
      let f = pair_of-second (SaysForm olds old_width new_width) t.at (u.0).at g (u.2).at a in
      found-new q p e j (args f.0 j f.1 ((f.2).no_more j n))))

  count : length (m.new).terms ≡ length (m.old).terms
  count = pairs-length (SaysTerm olds old_width new_width) (m.old).terms (m.new).terms r.terms

  pub all-found : ((vs : List ℤ) → IsPointOf i m.old vs → AreFound i (m.old).terms vs) → (ws : List ℤ) → IsPointOf i m.new ws → AreFound i (m.new).terms ws
  all-found old ws h t l =
      let o = stands.to_old ws h in
      let vs : List ℤ = o.0 in
      let e : finds m.new (point i m.new ws) ≡ finds m.old (point i m.old vs) = stands.same_step vs ws o.1 o.2 in
      let a = instance-depth (m.old).positions vs (o.1).instance in
      let b = r.old_shape in
      let old_deep : length i.params + length vs ≡ old_width = omega (arith, a, b) in
      let c = instance-depth (m.piece).positions ws (o.2).instance in
      let d = r.new_shape in
      let new_deep : new_width ≡ length i.params + length ws = omega (arith, c, d) in
      let n : t < length (m.old).terms = let x = count in omega (arith, l, x) in
      let f : IsFound i old_width (m.old).terms (point i m.old vs) t = subst (λ (w : ℕ). IsFound i w (m.old).terms (point i m.old vs) t) old_deep (old vs o.1 t n) in
      subst (λ (w : ℕ). IsFound i w (m.new).terms (point i m.new ws) t) new_deep (found-new (point i m.new ws) (point i m.old vs) e t f)

  pub ranks-new : HaveSomeRanks old_width (m.old).terms → HaveSomeRanks new_width (m.new).terms
  ranks-new (inl e) = inl (count ∙ e)
  ranks-new (inr (rank, h)) = inr (
    rank,
    record {
      bounded = λ k. subst (λ (n : ℕ). rank k < n) (sym count) (h.bounded k);
      above = λ k u g j at a n. (
          let t = pair_at-second (SaysTerm olds old_width new_width) k (m.old).terms (m.new).terms u r.terms at in
          let f = pair_of-second (SaysForm olds old_width new_width) (t.0).at u.at g (t.2).at a in
          h.above k t.0 f.0 j t.1 f.1 ((f.2).no_more j n));
    },
  )
