-- The list of new places is the old list moved.
use Rattle.std.proofs.Common.{◌≡◌, refl, sym, ap, ◌∙◌, subst, ℕ, ℤ, pos, Bool, true, List, [], ◌∷◌}
use Rattle.nest_tree.specs.Lists.{IsIn, IsListOf}
use Rattle.nest_tree.specs.Places.{place, IsInstance, Item, Precedes}
use Rattle.nest_tree.specs.Effects.{IsMoved}
use Rattle.c_meaning.specs.Ground.{Step}
use Rattle.sparse_lists.specs.Moving.{Goes, IsOneToOne, IsOf}
use Rattle.sparse_lists.specs.Laws.{RelocatedListIsMoved}

-- a statement's place tells the level values
pub place_back : (ps : List ℕ) (vs ws : List ℤ) → IsInstance ps vs → IsInstance ps ws → place ps vs ≡ place ps ws → vs ≡ ws
place_back [] vs ws i j e = absurd i
place_back (p ∷ []) [] [] i j e = refl
place_back (p ∷ []) [] (w ∷ ws) i j e = absurd j
place_back (p ∷ []) (v ∷ vs) ws i j e = absurd i
place_back (p ∷ p' ∷ ps) [] ws i j e = absurd i
place_back (p ∷ p' ∷ ps) (v ∷ vs) [] i j e = absurd j
place_back (p ∷ p' ∷ ps) (v ∷ vs) (w ∷ ws) i j e = ap (λ (x : ℤ). x ∷ vs) (head_is v w (place (p' ∷ ps) vs) (place (p' ∷ ps) ws) e) ∙ ap (λ (xs : List ℤ). w ∷ xs) (place_back (p' ∷ ps) vs ws i j (tail_is v w (place (p' ∷ ps) vs) (place (p' ∷ ps) ws) e))
  where
    head_is : (v w : ℤ) (xs ys : List ℤ) → (pos p ∷ v ∷ xs) ≡ (pos p ∷ w ∷ ys) → v ≡ w
    head_is v w xs ys e = cc

    tail_is : (v w : ℤ) (xs ys : List ℤ) → (pos p ∷ v ∷ xs) ≡ (pos p ∷ w ∷ ys) → xs ≡ ys
    tail_is v w xs ys e = cc

pub item_is : (x y : Item Step) → x.place ≡ y.place → x.step ≡ y.step → x ≡ y
item_is x y e f =
    ap (λ (p : List ℤ). let z : Item Step = record { place = p; step = x.step } in z) e ∙ ap (λ (s : Step). let z : Item Step = record { place = y.place; step = s } in z) f

module _ (holds : List ℤ → Bool) (ps qs : List ℕ) (to : List ℤ → List ℤ) (o : IsOneToOne holds ps qs to) where
  -- an item's level values are those that it goes by
  holds_there : (x y : Item Step) → IsOf holds ps x → (g : Goes ps qs to x y) → holds g.levels ≡ true
  holds_there x y k g = subst (λ vs. holds vs ≡ true) (place_back ps k.levels g.levels k.is_instance g.is_instance (sym k.from ∙ g.from)) k.passes

  one_new : (x y z : Item Step) → Goes ps qs to x y → Goes ps qs to x z → y ≡ z
  one_new x y z g h =
      let e : g.levels ≡ h.levels = place_back ps g.levels h.levels g.is_instance h.is_instance (sym g.from ∙ h.from) in
      item_is y z (g.there ∙ ap (λ (vs : List ℤ). place qs (to vs)) e ∙ sym h.there) (g.same ∙ sym h.same)

  one_old : (x w y : Item Step) → IsOf holds ps x → IsOf holds ps w → Goes ps qs to x y → Goes ps qs to w y → x ≡ w
  one_old x w y k l g h =
      let a : holds g.levels ≡ true = holds_there x y k g in
      let b : holds h.levels ≡ true = holds_there w y l h in
      let t : to g.levels ≡ to h.levels = place_back qs (to g.levels) (to h.levels) (o.instance g.levels a g.is_instance) (o.instance h.levels b h.is_instance) (sym g.there ∙ h.there) in
      let e : g.levels ≡ h.levels = o.back g.levels h.levels a b g.is_instance h.is_instance t in
      item_is x w (g.from ∙ ap (place ps) e ∙ sym h.from) (sym g.same ∙ h.same)

  goes_to : (x : Item Step) → IsOf holds ps x → (y : Item Step) × Goes ps qs to x y
  goes_to x k = (record { place = place qs (to k.levels); step = x.step }, record { levels = k.levels; is_instance = k.is_instance; from = k.from; there = refl; same = refl })

  relocated : (xs ys : List (Item Step)) → ((x : Item Step) → IsIn x xs → IsOf holds ps x) → IsListOf Precedes (λ y. (x : Item Step) × IsIn x xs × Goes ps qs to x y) ys → IsMoved (Goes ps qs to) xs ys
  relocated xs ys k l = record {
    each = l.each;
    all = λ x a. let t = goes_to x (k x a) in (t.0, l.all t.0 (x, a, t.1), t.1);
    one_new = λ x y z a b c g h. one_new x y z g h;
    one_old = λ x w y a b c g h. one_old x w y (k x a) (k w b) g h;
  }

pub moved : RelocatedListIsMoved
moved holds ps qs to o xs ys k l = relocated holds ps qs to o xs ys k l
