-- Sorted lists of the same assignments in which conflicting ones stand in the same order have the same effect.
use Rattle.std.proofs.Common.{◌≡◌, ◌⊎◌, inl, inr, List, [], ◌∷◌, ◌++◌, refl, sym, ◌∙◌, ap, subst}
use Rattle.nest_tree.specs.Lists.{IsIn, IsStrictlySorted, IsStrictOrder}
use Rattle.nest_tree.specs.Effects.{effect, IsMoved, KeepsOrder}
use Rattle.nest_laws.proofs.Lists.{in_append, in_append-left, in_append-right, split, sorted-append, sorted-parts}

-- a step that may change places with each step before it may go first
pub move : {A S : Type 0} (perform : A → S → S) (x : A) (before after : List A) → ((z : A) → IsIn z before → (s : S) → perform x (perform z s) ≡ perform z (perform x s)) → (s : S) → effect perform (before ++ x ∷ after) s ≡ effect perform (x ∷ before ++ after) s
move perform x [] after h s = refl
move perform x (z ∷ zs) after h s = move perform x zs after (λ y m. h y (inr m)) (perform z s) ∙ ap (effect perform (zs ++ after)) (h z (inl refl) s)

module _ {A B S : Type 0} (perform : A → S → S) (perform' : B → S → S) (Goes : A → B → Type 0) (Conflict : A → A → Type 0) (R : A → A → Type 0) (Q : B → B → Type 0) (o : IsStrictOrder R) (u : IsStrictOrder Q)
    (same : (x : A) (y : B) → Goes x y → (s : S) → perform' y s ≡ perform x s)
    (apart : (x w : A) → Conflict x w ⊎ ((s : S) → perform w (perform x s) ≡ perform x (perform w s))) where
  -- what stands in front of the first new item's old one doesn't conflict with it
  may_go_first : (x : A) (y : B) (before after : List A) (ys : List B) → Goes x y → IsStrictlySorted R (before ++ x ∷ after) → IsStrictlySorted Q (y ∷ ys) → IsMoved Goes (before ++ x ∷ after) (y ∷ ys) → KeepsOrder Goes Conflict R Q (before ++ x ∷ after) (y ∷ ys)
      → (w : A) → IsIn w before → (s : S) → perform x (perform w s) ≡ perform w (perform x s)
  may_go_first x y before after ys g p q m k w a s =
      let there : IsIn w (before ++ x ∷ after) = in_append-left w before (x ∷ after) a in
      let here : IsIn x (before ++ x ∷ after) = in_append-right x before (x ∷ after) (inl refl) in
      let found = m.all w there in
      let earlier : R w x = (sorted-parts R before (x ∷ after) p).2 w x a (inl refl) in
      elim (apart w x) [
        | inr h ↦ h s
        | inl c ↦ absurd (let first = k.keeps w x found.0 y there here found.1 (inl refl) found.2 g c earlier in elim found.1 [
          | inl f ↦ u.irreflexive y (subst (λ z. Q z y) f first)
          | inr r ↦ u.irreflexive y (u.transitive y found.0 y (q.0 found.0 r) first)
        ])
      ]

  wider : (x w : A) (before after : List A) → IsIn w (before ++ after) → IsIn w (before ++ x ∷ after)
  wider x w before after a = elim (in_append w before after a) [ inl b ↦ in_append-left w before (x ∷ after) b | inr b ↦ in_append-right w before (x ∷ after) (inr b) ]

  other : (x w : A) (before after : List A) → IsStrictlySorted R (before ++ x ∷ after) → IsIn w (before ++ after) → x ≡ w → ⊥
  other x w before after p a e =
      let parts = sorted-parts R before (x ∷ after) p in
      elim (in_append w before after a) [
        | inl b ↦ o.irreflexive w (subst (R w) e (parts.2 w x b (inl refl)))
        | inr b ↦ o.irreflexive w (subst (λ z. R z w) e (parts.1.0 w b))
      ]

  narrower : (x w : A) (before after : List A) → IsIn w (before ++ x ∷ after) → (w ≡ x → ⊥) → IsIn w (before ++ after)
  narrower x w before after a n =
      elim (in_append w before (x ∷ after) a) [
        | inl b ↦ in_append-left w before after b
        | inr (inl e) ↦ absurd (n e)
        | inr (inr b) ↦ in_append-right w before after b
      ]

  -- without the first new item and its old one
  rest_moved : (x : A) (y : B) (before after : List A) (ys : List B) → Goes x y → IsStrictlySorted R (before ++ x ∷ after) → IsStrictlySorted Q (y ∷ ys) → IsMoved Goes (before ++ x ∷ after) (y ∷ ys) → IsMoved Goes (before ++ after) ys
  rest_moved x y before after ys g p q m = record {
    each = λ z a. (
        let found = m.each z (inr a) in
        let here : IsIn x (before ++ x ∷ after) = in_append-right x before (x ∷ after) (inl refl) in
        (found.0, narrower x found.0 before after found.1 (λ e. u.irreflexive y (subst (Q y) (m.one_new x z y here (inr a) (inl refl) (subst (λ w. Goes w z) e found.2) g) (q.0 z a))), found.2));
    all = λ w a. (
        let there : IsIn w (before ++ x ∷ after) = wider x w before after a in
        let here : IsIn x (before ++ x ∷ after) = in_append-right x before (x ∷ after) (inl refl) in
        let found = m.all w there in
        elim found.1 [
          | inr b ↦ (found.0, b, found.2)
          | inl e ↦ absurd (other x w before after p a (m.one_old x w y here there (inl refl) g (subst (Goes w) e found.2)))
        ]);
    one_new = λ w z z' a b c. m.one_new w z z' (wider x w before after a) (inr b) (inr c);
    one_old = λ w w' z a b c. m.one_old w w' z (wider x w before after a) (wider x w' before after b) (inr c);
  }

  rest_keeps : (x : A) (y : B) (before after : List A) (ys : List B) → KeepsOrder Goes Conflict R Q (before ++ x ∷ after) (y ∷ ys) → KeepsOrder Goes Conflict R Q (before ++ after) ys
  rest_keeps x y before after ys k = record { keeps = λ w w' z z' a b c d. k.keeps w w' z z' (wider x w before after a) (wider x w' before after b) (inr c) (inr d) }

  rest_sorted : (x : A) (before after : List A) → IsStrictlySorted R (before ++ x ∷ after) → IsStrictlySorted R (before ++ after)
  rest_sorted x before after p =
      let parts = sorted-parts R before (x ∷ after) p in
      sorted-append R before after parts.0 parts.1.1 (λ v w a b. parts.2 v w a (inr b))

  none_left : (xs : List A) → IsMoved Goes xs [] → xs ≡ []
  none_left [] m = refl
  none_left (x ∷ xs) m = absurd ((m.all x (inl refl)).1)

  -- the law of effects
  pub same_effect : (ys : List B) (xs : List A) → IsStrictlySorted R xs → IsStrictlySorted Q ys → IsMoved Goes xs ys → KeepsOrder Goes Conflict R Q xs ys → (s : S) → effect perform' ys s ≡ effect perform xs s
  same_effect [] xs p q m k s = ap (λ l. effect perform l s) (sym (none_left xs m))
  same_effect (y ∷ ys) xs p q m k s =
      let found = m.each y (inl refl) in
      let x = found.0 in
      let g : Goes x y = found.2 in
      let parts = split x xs found.1 in
      let before = parts.0 in
      let after = parts.1 in
      let p' : IsStrictlySorted R (before ++ x ∷ after) = subst (IsStrictlySorted R) parts.2 p in
      let m' : IsMoved Goes (before ++ x ∷ after) (y ∷ ys) = subst (λ l. IsMoved Goes l (y ∷ ys)) parts.2 m in
      let k' : KeepsOrder Goes Conflict R Q (before ++ x ∷ after) (y ∷ ys) = subst (λ l. KeepsOrder Goes Conflict R Q l (y ∷ ys)) parts.2 k in
      ap (effect perform' ys) (same x y g s)
      ∙ same_effect ys (before ++ after) (rest_sorted x before after p') q.1 (rest_moved x y before after ys g p' q m') (rest_keeps x y before after ys k') (perform x s)
      ∙ sym (move perform x before after (may_go_first x y before after ys g p' q m' k') s)
      ∙ ap (λ l. effect perform l s) (sym parts.2)
