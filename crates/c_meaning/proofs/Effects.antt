-- The same assignments in an order that keeps each conflicting pair have the same effect.
use Rattle.std.proofs.Common.{◌≡◌, ◌⊎◌, inl, inr, Bool, true, false, List, [], ◌∷◌, ◌++◌, refl, sym, ◌∙◌, ap, subst}
use Rattle.c_meaning.specs.Memory.{Cells}
use Rattle.c_meaning.specs.Ground.{Step, perform, effect, conflicts}
use Rattle.c_meaning.specs.Listing.{Item, steps}
use Rattle.c_meaning.specs.Order.{IsIn, StandsBefore, HasNoTwice, IsReordering}
use Rattle.c_meaning.proofs.Spots.{swap}

pub in_append-left : {A : Type 0} (x : A) (xs ys : List A) → IsIn x xs → IsIn x (xs ++ ys)
in_append-left x [] ys h = absurd h
in_append-left x (z ∷ xs) ys (inl e) = inl e
in_append-left x (z ∷ xs) ys (inr h) = inr (in_append-left x xs ys h)

pub in_append-right : {A : Type 0} (x : A) (xs ys : List A) → IsIn x ys → IsIn x (xs ++ ys)
in_append-right x [] ys h = h
in_append-right x (z ∷ xs) ys h = inr (in_append-right x xs ys h)

pub in_append : {A : Type 0} (x : A) (xs ys : List A) → IsIn x (xs ++ ys) → IsIn x xs ⊎ IsIn x ys
in_append x [] ys h = inr h
in_append x (z ∷ xs) ys (inl e) = inl (inl e)
in_append x (z ∷ xs) ys (inr h) = elim (in_append x xs ys h) [ inl a ↦ inl (inr a) | inr b ↦ inr b ]

-- an element that is in the list, and what stands before and behind it
pub split : {A : Type 0} (x : A) (xs : List A) → IsIn x xs → (before : List A) × (after : List A) × (xs ≡ before ++ (x ∷ after))
split x [] h = absurd h
split x (y ∷ ys) (inl e) = ([], ys, ap (λ z. z ∷ ys) (sym e))
split x (y ∷ ys) (inr h) = let s = split x ys h in (y ∷ s.0, s.1, ap (λ l. y ∷ l) s.2)

-- with one element taken out of a list
module _ {A : Type 0} (x : A) where
  pub wider : (w : A) (before after : List A) → IsIn w (before ++ after) → IsIn w (before ++ (x ∷ after))
  wider w before after a = elim (in_append w before after a) [ inl b ↦ in_append-left w before (x ∷ after) b | inr b ↦ in_append-right w before (x ∷ after) (inr b) ]

  pub narrower : (w : A) (before after : List A) → IsIn w (before ++ (x ∷ after)) → (w ≡ x → ⊥) → IsIn w (before ++ after)
  narrower w before after a n =
      elim (in_append w before (x ∷ after) a) [
        | inl b ↦ in_append-left w before after b
        | inr (inl e) ↦ absurd (n e)
        | inr (inr b) ↦ in_append-right w before after b
      ]

  pub once_without : (before after : List A) → HasNoTwice (before ++ (x ∷ after)) → HasNoTwice (before ++ after)
  once_without [] after h = h.1
  once_without (z ∷ before) after h = (λ a. h.0 (wider z before after a), once_without before after h.1)

  -- it isn't in the rest
  pub gone : (before after : List A) → HasNoTwice (before ++ (x ∷ after)) → IsIn x (before ++ after) → ⊥
  gone [] after h a = h.0 a
  gone (z ∷ before) after h (inl e) = h.0 (subst (λ w. IsIn w (before ++ (x ∷ after))) e (in_append-right x before (x ∷ after) (inl refl)))
  gone (z ∷ before) after h (inr a) = gone before after h.1 a

  pub stands_before : (w : A) (before after : List A) → IsIn w before → StandsBefore w x (before ++ (x ∷ after))
  stands_before w [] after h = absurd h
  stands_before w (z ∷ before) after (inl e) = inl (e, in_append-right x before (x ∷ after) (inl refl))
  stands_before w (z ∷ before) after (inr h) = inr (stands_before w before after h)

  pub still_before : (v w : A) (before after : List A) → StandsBefore v w (before ++ after) → StandsBefore v w (before ++ (x ∷ after))
  still_before v w [] after h = inr h
  still_before v w (z ∷ before) after (inl h) = inl (h.0, wider w before after h.1)
  still_before v w (z ∷ before) after (inr h) = inr (still_before v w before after h)

pub in_first : {A : Type 0} (v w : A) (xs : List A) → StandsBefore v w xs → IsIn v xs
in_first v w [] h = absurd h
in_first v w (z ∷ xs) (inl h) = inl h.0
in_first v w (z ∷ xs) (inr h) = inr (in_first v w xs h)

pub in_second : {A : Type 0} (v w : A) (xs : List A) → StandsBefore v w xs → IsIn w xs
in_second v w [] h = absurd h
in_second v w (z ∷ xs) (inl h) = inr h.1
in_second v w (z ∷ xs) (inr h) = inr (in_second v w xs h)

-- nothing stands before the first
none_before_first : {A : Type 0} (v x : A) (xs : List A) → HasNoTwice (x ∷ xs) → StandsBefore v x (x ∷ xs) → ⊥
none_before_first v x xs h (inl b) = h.0 b.1
none_before_first v x xs h (inr b) = h.0 (in_second v x xs b)

-- an assignment that conflicts with none before it may go first
move : (t : Item Step) (before after : List (Item Step)) → ((i : Item Step) → IsIn i before → conflicts i.step t.step ≡ false) → (s : Cells)
    → effect (steps (before ++ (t ∷ after))) s ≡ effect (steps (before ++ after)) (perform t.step s)
move t [] after h s = refl
move t (i ∷ before) after h s =
    move t before after (λ j a. h j (inr a)) (perform i.step s)
    ∙ ap (effect (steps (before ++ after))) (swap i.step t.step (h i (inl refl)) s)

no_conflict : (b : Bool) → (b ≡ true → ⊥) → b ≡ false
no_conflict true h = absurd (h refl)
no_conflict false h = refl

rest_reorders : (i : Item Step) (before after is : List (Item Step)) → IsReordering (before ++ (i ∷ after)) (i ∷ is) → IsReordering (before ++ after) is
rest_reorders i before after is r = record {
  old_once = once_without i before after r.old_once;
  new_once = r.new_once.1;
  each = λ j a. narrower i j before after (r.each j (inr a)) (λ e. r.new_once.0 (subst (λ k. IsIn k is) e a));
  all = λ j a. elim (r.all j (wider i j before after a)) [
    | inl e ↦ absurd (gone i before after r.old_once (subst (λ k. IsIn k (before ++ after)) e a))
    | inr b ↦ b
  ];
  keeps = λ j k c h. elim (r.keeps j k c (still_before i j k before after h)) [
    | inl b ↦ absurd (gone i before after r.old_once (subst (λ l. IsIn l (before ++ after)) b.0 (in_first j k (before ++ after) h)))
    | inr b ↦ b
  ];
}

none_left : (old : List (Item Step)) → IsReordering old [] → old ≡ []
none_left [] r = refl
none_left (i ∷ old) r = absurd (r.all i (inl refl))

pub same_effect : (new old : List (Item Step)) → IsReordering old new → (s : Cells) → effect (steps new) s ≡ effect (steps old) s
same_effect [] old r s = ap (λ l. effect (steps l) s) (sym (none_left old r))
same_effect (i ∷ is) old r s =
    let parts = split i old (r.each i (inl refl)) in
    let r' : IsReordering (parts.0 ++ (i ∷ parts.1)) (i ∷ is) = subst (λ l. IsReordering l (i ∷ is)) parts.2 r in
    same_effect is (parts.0 ++ parts.1) (rest_reorders i parts.0 parts.1 is r') (perform i.step s)
    ∙ sym (move i parts.0 parts.1 (λ j a. no_conflict _ (λ c. none_before_first j i is r'.new_once (r'.keeps j i c (stands_before i j parts.0 parts.1 a)))) s)
    ∙ ap (λ l. effect (steps l) s) (sym parts.2)
